-- the lemmas of the crate
pub mod Merging
pub mod Sizing
pub mod Told
