-- the definitions of the crate, a module a subject
pub mod Opening
