-- the lemmas of the crate
pub mod Tests
pub mod LineTests
pub mod StatementTests
pub mod Places
pub mod Leading
pub mod Bridged
pub mod Continuing
pub mod TreeTests
pub mod TreeWalk
pub mod UpTo
pub mod WholeText
pub mod Ending
pub mod Scanned
