-- the lemmas of the crate
pub mod WithoutBlocks
