-- the lemmas of the crate
pub mod Standing
pub mod Sets
pub mod Passing
pub mod Numbering
pub mod Given
pub mod Ways
pub mod Arcs
pub mod Reading
pub mod Saving
pub mod Behind
pub mod Answering
