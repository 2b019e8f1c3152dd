pub mod PointsHold
pub mod TableLaws
pub mod ClassLaws
pub mod MitigationLaws
pub mod CreditLaws
pub mod PromisesHold
pub mod LowerHolds
