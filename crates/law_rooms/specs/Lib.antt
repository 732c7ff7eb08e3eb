-- What the contracts of this crate say of runs with limits.
pub mod Rooms
pub mod Adjoints
pub mod Advances
