-- the lemmas of the crate
pub mod Reading
pub mod Showing
pub mod Setting
pub mod Numberings
pub mod Resolving
pub mod Giving
pub mod Entering
pub mod Suiting
pub mod Borrowing
pub mod Returning
pub mod Taking
pub mod Scalars
pub mod Listing
pub mod Declarations
pub mod Failing
