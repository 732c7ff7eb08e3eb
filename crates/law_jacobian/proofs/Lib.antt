-- the lemmas of the crate
pub mod Traced
pub mod Runs
pub mod Grouping
pub mod Recovering
pub mod Examples
