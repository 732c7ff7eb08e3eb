-- the lemmas of the crate
pub mod Tables
pub mod Numbers
pub mod Stepping
pub mod Lookups
pub mod Naming
pub mod Actuals
pub mod Splitting
pub mod Rows
pub mod Steps
pub mod Finding
