-- the definitions of the crate, a module a subject
pub mod TangentOf
pub mod Forward
pub mod Program
pub mod IsTangent
