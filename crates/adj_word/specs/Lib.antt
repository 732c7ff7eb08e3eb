-- What the contracts of this crate and of the crates above it say of words.
pub mod Word
pub mod Dot
pub mod Pairing
