-- the definitions of the crate, a module a subject
pub mod Checked
pub mod Shadowed
pub mod Splits
pub mod Emitted
pub mod Accepted
