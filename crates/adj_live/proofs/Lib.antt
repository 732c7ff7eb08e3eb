-- the lemmas of the crate
pub mod Facts
pub mod KnownLists
pub mod Naming
pub mod Using
pub mod Imaged
pub mod Rowed
pub mod Telling
pub mod Answering
pub mod Arcs
