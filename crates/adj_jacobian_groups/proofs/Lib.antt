-- the lemmas of the crate
pub mod Seen
mod Listing
mod Marking
mod Turns
