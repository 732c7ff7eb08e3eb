-- What the contracts of this crate say of a tape.
pub mod Held
