-- What the contracts of this crate say of the command `check`.
pub mod Checking
pub mod Emitted
pub mod Agreeing
pub mod Ending
pub mod Ready
