pub mod WaysOut
pub mod PromisesHold
pub mod LowerColumn
pub mod Demand3Holds
