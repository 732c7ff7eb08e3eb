-- What the contracts of this crate say of kernels.
pub mod Apart
pub mod Fits
pub mod StepTheorem
pub mod Means
pub mod Theorem
pub mod StepMeans
pub mod WeighTheorem
pub mod Samples
pub mod Worked
pub mod WrittenTheorem
pub mod Sound
