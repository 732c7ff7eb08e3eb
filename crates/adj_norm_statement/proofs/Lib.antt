-- the lemmas of the crate
pub mod Decided
pub mod Equal
pub mod Made
pub mod Onto
pub mod Expressions
pub mod Targets
pub mod Held
pub mod Calls
