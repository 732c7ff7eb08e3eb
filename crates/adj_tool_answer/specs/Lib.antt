-- the definitions of the crate, a module a subject
pub mod Answer
pub mod Programs
pub mod Laws
pub mod Views
pub mod EndingViews
pub mod Endings
