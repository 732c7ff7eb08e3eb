-- the definitions of the crate, a module a subject
pub mod Bits
pub mod Arcs
pub mod Against
pub mod Chains
pub mod Searches
