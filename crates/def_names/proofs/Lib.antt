-- the lemmas of the crate
pub mod Lists
pub mod Fresh
pub mod Order
pub mod Sound
pub mod Faultless
pub mod NameLists
pub mod Variables
pub mod Conditioned
pub mod VariableLists
