-- What clauses see of the tables and lists of this crate, and the graph whose paths say which dummies are written or read.
pub mod Table
pub mod View
pub mod Names
pub mod Graph
