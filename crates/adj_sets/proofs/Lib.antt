-- Lemmas about sets of names.
pub mod NameSets
