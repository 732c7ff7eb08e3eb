-- the definitions of the crate, a module a subject
pub mod First
pub mod LineFaults
pub mod StatementFaults
pub mod Opened
pub mod Following
pub mod Ends
pub mod TreeFaults
pub mod Prefixes
pub mod TextFaults
pub mod Refusals
pub mod Scanned
