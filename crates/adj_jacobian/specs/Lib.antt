-- the definitions of the crate, a module a subject
pub mod Walks
pub mod Products
pub mod Parts
pub mod Lists
pub mod Ends
pub mod Derives
