-- the definitions of the crate, a module a subject
pub mod Source
pub mod Rows
pub mod Programs
