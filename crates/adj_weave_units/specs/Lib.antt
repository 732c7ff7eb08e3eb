-- the definitions of the crate, a module a subject
pub mod Parts
pub mod Calls
pub mod Flowing
pub mod Made
