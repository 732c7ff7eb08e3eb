-- the definitions of the crate, a module a subject
pub mod Code
pub mod View
pub mod Size
pub mod Lines
pub mod Listed
pub mod Codes
pub mod Common
pub mod CommonView
pub mod Bits
