-- the lemmas of the crate
pub mod Cutting
pub mod Entering
pub mod Found
pub mod Elements
pub mod Declarations
pub mod Extents
pub mod Marking
pub mod Checked
pub mod Fitted
