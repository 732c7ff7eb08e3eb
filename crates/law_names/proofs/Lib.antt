-- the lemmas of the crate
pub mod Samples
pub mod Lines
