-- Lists passed one by one, units at their places, and what is reached along calls.
pub mod Walks
pub mod Places
pub mod Ordered
pub mod Calling
pub mod Edges
pub mod Reached
pub mod Facts
pub mod Declared
pub mod Flagged
pub mod Renamed
pub mod Units
pub mod Standing
