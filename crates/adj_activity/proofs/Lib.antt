-- the lemmas of the crate
pub mod FlowNumbered
pub mod ShadowNumbered
pub mod AdjointNumbered
pub mod Told
pub mod Passing
pub mod Rowed
pub mod Flagging
pub mod Holding
pub mod Flowing
pub mod Started
pub mod Answering
mod Arcs
mod Seeing
