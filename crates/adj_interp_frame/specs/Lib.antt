-- What the contracts of this crate say of prepared units and their entries.
pub mod Prepared
pub mod Instructed
pub mod Numbered
pub mod Framed
pub mod Shown
pub mod Called
pub mod Suited
pub mod Linked
pub mod Listed
pub mod Declaring
pub mod Lent
pub mod Passed
