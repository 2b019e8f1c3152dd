pub mod SolvedLaws
pub mod GreatestLaws
pub mod GreatestAnswers
pub mod KeepsLaws
pub mod AnswerLaws
pub mod PromisesHold
