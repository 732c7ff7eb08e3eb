-- the lemmas of the crate
pub mod Adding
pub mod Units
pub mod Sources
pub mod Rows
pub mod Cuts
pub mod Programs
pub mod Unmarked
