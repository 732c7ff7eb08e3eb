-- What the contracts of this crate say of the command `jacobian`.
pub mod Written
pub mod Jacobian
