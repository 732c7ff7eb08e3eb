-- the definitions of the crate, a module a subject
pub mod Rule
pub mod Kept
pub mod Reading
pub mod Lengths
pub mod Limits
