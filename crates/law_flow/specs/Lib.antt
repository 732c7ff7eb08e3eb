-- the definitions of the crate, a module a subject
pub mod Laws
pub mod Computed
pub mod Writing
pub mod Examples
