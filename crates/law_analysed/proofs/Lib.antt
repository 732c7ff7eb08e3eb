-- the lemmas of the crate
pub mod TurnLaws
pub mod Lists
pub mod Numbers
pub mod Given
pub mod Calls
pub mod Meets
pub mod Checked
pub mod MarkedLines
pub mod Reaching
pub mod Adjoint
pub mod Lending
