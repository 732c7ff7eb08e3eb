-- the definitions of the crate, a module a subject
pub mod Edges
pub mod View
pub mod Arcs
pub mod Starts
pub mod Carried
pub mod Searched
pub mod Laws
