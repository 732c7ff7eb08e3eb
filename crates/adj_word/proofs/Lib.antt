-- The laws of words, for the proofs of this crate and of the crates above it. Cite them; unfold no residue.
pub mod Integers
pub mod Residues
pub mod Powers
pub mod Quotients
pub mod Transposes
pub mod TripCounts
pub mod Counting
pub mod DotProducts
pub mod Pairings
