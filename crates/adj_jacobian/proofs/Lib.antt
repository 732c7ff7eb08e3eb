-- the lemmas of the crate
pub mod Walking
pub mod Flagging
pub mod Holding
pub mod Entering
pub mod Ranges
pub mod Placing
pub mod Rowing
pub mod Within
pub mod Listing
pub mod Starting
pub mod Parting
pub mod Dualing
pub mod Derived
