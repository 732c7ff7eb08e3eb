-- the lemmas of the crate
pub mod Heads
pub mod Endings
pub mod Answered
