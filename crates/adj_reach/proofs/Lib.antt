-- the lemmas of the crate
pub mod Reaching
pub mod Members
pub mod Tallies
pub mod Placing
pub mod Sums
pub mod Marking
pub mod Searching
pub mod Greatest
