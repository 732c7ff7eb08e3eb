-- the lemmas of the crate
pub mod Heads
pub mod Placing
pub mod Endings
pub mod Answered
pub mod Roomless
