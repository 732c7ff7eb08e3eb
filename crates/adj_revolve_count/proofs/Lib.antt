-- the lemmas of the crate
mod Counts
mod Ends
mod Returns
mod RowLemmas
