-- What the contracts of this crate say of running.
pub mod Tallied
pub mod Held
pub mod Entered
pub mod Concludes
pub mod Ended
pub mod Dually
pub mod Inputs
