-- the definitions of the crate, a module a subject
pub mod Tables
pub mod Entries
pub mod Texts
pub mod Layouts
pub mod Using
pub mod Naming
pub mod Handing
pub mod Members
pub mod Lowering
pub mod Views
