-- the lemmas of the crate
pub mod Unmarked
pub mod MarkedLines
pub mod ReadLines
pub mod OwnNames
pub mod ByMarks
pub mod Unscheduled
pub mod MarkedCalls
pub mod Planned
