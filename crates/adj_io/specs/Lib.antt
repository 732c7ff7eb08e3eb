-- What the contracts of this crate and of the crates above it say of streams.
pub mod Faults
pub mod Bytes
pub mod InMemory
pub mod Adapter
