-- the definitions of the crate, a module a subject
pub mod ConditionMachine
pub mod PartialCondition
pub mod Waits
pub mod Judged
pub mod Reading
pub mod Front
pub mod View
pub mod Flaws
pub mod Constants
pub mod Partial
pub mod Stack
