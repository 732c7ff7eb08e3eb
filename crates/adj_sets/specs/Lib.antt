-- What sets of names are as lists.
pub mod Sets
