-- the definitions of the crate, a module a subject
pub mod Form
pub mod Made
pub mod Locals
pub mod Steps
pub mod Operations
pub mod Targets
pub mod Passings
pub mod Handed
