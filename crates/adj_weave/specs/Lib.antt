-- the definitions of the crate, a module a subject
pub mod Marked
pub mod Named
pub mod Searched
pub mod Left
pub mod Alike
pub mod Orders
pub mod Shared
pub mod Making
pub mod Woven
pub mod Analyses
