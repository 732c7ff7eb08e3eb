-- Lemmas on bytes that are left or were taken.
pub mod Pieces
pub mod Reading
