-- the lemmas of the crate
pub mod Names
pub mod Onto
pub mod BitWords
