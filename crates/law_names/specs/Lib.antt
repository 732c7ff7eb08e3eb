-- What the contracts of this crate and of the crates above it say of names and calls.
pub mod Builders
pub mod Samples
pub mod NameSamples
pub mod CallSamples
