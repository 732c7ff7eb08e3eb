-- What the contracts of this crate say of the command `run`.
pub mod Running
