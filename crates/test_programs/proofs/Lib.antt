-- The proofs of the tests.
pub mod Fitting
pub mod Pairing
