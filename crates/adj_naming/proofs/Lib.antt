-- Lemmas about names, helpers and sets of them.
pub mod Different
pub mod Helpers
pub mod Added
pub mod Places
pub mod Tables
pub mod Making
pub mod Declarations
