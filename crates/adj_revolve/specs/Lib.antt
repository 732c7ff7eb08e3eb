-- the definitions of the crate, a module a subject
pub mod Binomial
pub mod LeastCost
pub mod Split
pub mod Machine
pub mod Playing
pub mod Schedule
pub mod Frames
