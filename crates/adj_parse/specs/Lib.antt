-- the definitions of the crate, a module a subject
pub mod Blocks
pub mod Order
pub mod Unit
pub mod NestView
pub mod Trees
pub mod CurrentView
