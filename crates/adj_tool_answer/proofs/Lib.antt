-- the lemmas of the crate
pub mod Telling
pub mod Sized
pub mod Heads
pub mod BlocksKept
