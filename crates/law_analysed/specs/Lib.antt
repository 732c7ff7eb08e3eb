-- the definitions of the crate, a module a subject
pub mod MarkedLines
pub mod Meets
pub mod Lending
