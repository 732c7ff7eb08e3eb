-- the lemmas of the crate
pub mod Rows
pub mod Saying
mod Few
mod Counting
