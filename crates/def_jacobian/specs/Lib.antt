-- the definitions of the crate, a module a subject
pub mod Columns
pub mod Inputs
pub mod Patterns
pub mod Groups
pub mod Recovered
pub mod Laws
