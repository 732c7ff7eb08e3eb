-- the lemmas of the crate
pub mod Unlimited
pub mod Kept
pub mod Rooms
pub mod Adjoints
pub mod Nested
pub mod Advances
