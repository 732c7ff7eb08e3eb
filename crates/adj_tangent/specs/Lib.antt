-- the definitions of the crate, a module a subject
pub mod Terms
pub mod Plans
pub mod Counts
pub mod Flagged
pub mod Known
pub mod Woven
