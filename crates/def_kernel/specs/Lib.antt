-- What the contracts of this crate say of kernels.
pub mod Lowered
pub mod Weights
pub mod Calls
pub mod Stepped
pub mod Form
pub mod Kernel
