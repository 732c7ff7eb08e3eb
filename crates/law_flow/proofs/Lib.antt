-- the lemmas of the crate
pub mod Sameness
pub mod Computing
pub mod Examples
pub mod Active
pub mod Closed
pub mod Assigned
pub mod Called
pub mod Statements
pub mod Heads
pub mod Wanted
pub mod Unsplit
