-- the lemmas of the crate
pub mod Numbers
pub mod Passes
pub mod Stating
