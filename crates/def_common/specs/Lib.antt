-- What is to be believed of COMMON blocks, a module a subject.
pub mod Blocks
pub mod Members
pub mod Lowering
pub mod Slots
pub mod Refused
pub mod Source
