-- the definitions of the crate, a module a subject
pub mod Asked
pub mod Lines
pub mod View
pub mod Told
