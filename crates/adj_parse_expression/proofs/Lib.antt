-- the lemmas of the crate
pub mod Names
pub mod Powers
pub mod StackLemmas
pub mod Closing
pub mod Bound
pub mod Exact
pub mod Front
pub mod Runs
pub mod Split
pub mod ConditionComplete
pub mod ConditionSound
pub mod ConditionUnique
pub mod ConditionExact
pub mod WaitLemmas
pub mod ConditionSteps
pub mod ConditionReads
