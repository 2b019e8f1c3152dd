pub mod RootLaws
pub mod FactorLaws
pub mod AnswerMade
pub mod PromisesHold
