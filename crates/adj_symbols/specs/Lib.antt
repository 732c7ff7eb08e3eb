-- What clauses see of the tables and lists of this crate.
pub mod Table
pub mod View
pub mod Outline
pub mod Scope
pub mod Rules
pub mod Chain
pub mod Graph
pub mod Writes
pub mod Opening
pub mod Sharing
pub mod Checked
pub mod Numbers
