-- The laws of sweeps.
pub mod UnsplitRows
pub mod Occurrences
