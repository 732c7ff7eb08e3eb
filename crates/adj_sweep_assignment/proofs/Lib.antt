-- the lemmas of the crate
pub mod Unsplit
pub mod Shares
pub mod Values
pub mod ApartTerms
pub mod Plain
pub mod Onto
pub mod Idle
pub mod Behind
pub mod Elements
pub mod Adjoints
