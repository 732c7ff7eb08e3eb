-- the lemmas of the crate
pub mod Booleans
pub mod Appends
pub mod SeenValues
pub mod LeastSets
pub mod Variables
pub mod Cells
pub mod EntriesSeen
pub mod ReadsMore
pub mod RenamedLists
pub mod WithoutTangents
pub mod WritesMore
