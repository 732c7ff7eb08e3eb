-- the definitions of the crate, a module a subject
pub mod Bound
pub mod View
pub mod Reads
pub mod Saves
pub mod Asked
