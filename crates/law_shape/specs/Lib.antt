-- What the contracts of this crate and of the crates above it say of the shape of emitted programs.
pub mod Closed
pub mod Laws
pub mod Accepted
pub mod Worked
pub mod Reversed
