-- the definitions of the crate, a module a subject
pub mod Parts
pub mod Ways
pub mod Standing
pub mod AdjointReads
pub mod Problem
pub mod Flow
pub mod Activity
pub mod Carried
pub mod Uses
pub mod Live
pub mod Held
pub mod Rules
pub mod Closure
pub mod Analysed
pub mod Scopes
pub mod Splits
