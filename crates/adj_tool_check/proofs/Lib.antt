-- the lemmas of the crate
pub mod Dots
pub mod Walks
pub mod Endings
pub mod Duals
pub mod Suits
pub mod Agreeing
pub mod Readings
pub mod Heads
pub mod Data
