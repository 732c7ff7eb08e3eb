-- the lemmas of the crate
pub mod Seen
