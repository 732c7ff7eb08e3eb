-- the definitions of the crate, a module a subject
pub mod Callees
pub mod Depths
pub mod HelperSteps
pub mod Uses
pub mod Plans
pub mod Rows
pub mod Swept
pub mod Actuals
pub mod Steps
