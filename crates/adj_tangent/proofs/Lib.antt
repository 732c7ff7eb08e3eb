-- Lemmas on terms, statements and units.
pub mod Tangents
pub mod Passive
pub mod Renaming
pub mod Values
pub mod Before
pub mod Kept
pub mod Written
pub mod Counting
pub mod Actuals
pub mod Flagged
pub mod Known
pub mod Reached
pub mod Units
pub mod Emitted
