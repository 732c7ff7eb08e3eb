-- the lemmas of the crate
pub mod Truths
pub mod Machine
pub mod BlocksComplete
pub mod UnitsComplete
pub mod BlocksSound
pub mod UnitsSound
pub mod UnitsFit
pub mod Stacks
pub mod Declares
pub mod SplitLines
pub mod Seen
pub mod Following
pub mod Passing
pub mod Followed
pub mod TextReads
