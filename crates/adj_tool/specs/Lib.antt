-- the definitions of the crate, a module a subject
pub mod Fitting
pub mod Arguments
pub mod Planned
pub mod Answer
pub mod Headline
pub mod Check
pub mod Exactly
pub mod Sample
pub mod Views
pub mod Tool
pub mod Complete
