-- the definitions of the crate, a module a subject
pub mod Texts
pub mod Roles
pub mod Sets
pub mod Table
