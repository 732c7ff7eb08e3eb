-- the definitions of the crate, a module a subject
pub mod Sweeps
pub mod CostTheorem
pub mod Along
pub mod RunTheorem
pub mod Sums
pub mod Rows
pub mod ScheduledRuns
pub mod Spent
pub mod KernelSpent
