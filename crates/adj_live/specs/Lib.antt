-- the definitions of the crate, a module a subject
pub mod Numbers
pub mod Extents
pub mod Passed
pub mod Listed
pub mod View
pub mod Asked
