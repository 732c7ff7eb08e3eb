-- the definitions of the crate, a module a subject
pub mod View
pub mod Shares
pub mod Apart
pub mod Sites
pub mod Behind
