-- What is gathered of a list, and of the text that it becomes.
pub mod Gathered
pub mod Through
pub mod Naming
pub mod Forward
pub mod Rows
pub mod Sparing
pub mod Sweeps
pub mod Deeds
pub mod Calls
pub mod Swept
pub mod Adjoint
pub mod Program
pub mod Analysed
pub mod Accepted
pub mod Cuts
pub mod Worked
pub mod Reversed
