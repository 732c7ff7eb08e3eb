-- the lemmas of the crate
pub mod BinomialLemmas
pub mod LeastCostLemmas
pub mod SplitLemmas
pub mod LowerBound
pub mod Induction
pub mod ScheduleLemmas
pub mod CodeLemmas
pub mod PlayLemmas
pub mod FrameLemmas
