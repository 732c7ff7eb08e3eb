-- the lemmas of the crate
pub mod Driving
pub mod Serving
pub mod Plans
pub mod Calling
pub mod Wholes
pub mod Accepted
pub mod Inputting
pub mod Concluding
pub mod Running
pub mod Worded
pub mod Quiet
pub mod Tangents
