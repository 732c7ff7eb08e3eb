-- What the contracts of this crate and of the crates above it say of running.
pub mod Leads
pub mod Follows
pub mod Agree
pub mod Common
pub mod Unlined
pub mod Laws
pub mod Samples
pub mod Cases
