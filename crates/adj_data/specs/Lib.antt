-- What the contracts of this crate say of data.
pub mod Items
pub mod Titles
pub mod Entries
pub mod Faults
pub mod DataCodes
pub mod Given
pub mod Fitting
pub mod Printed
pub mod Sample
pub mod Marked
