-- What the tests say of inputs.
pub mod Scalars
