-- the definitions of the crate, a module a subject
pub mod LeastCosts
pub mod Trapped
pub mod Few
pub mod Calls
pub mod CallsAtMost
pub mod Scheduled
pub mod KernelSpends
pub mod Spends
pub mod Adjoint
pub mod Shape
pub mod KernelShape
