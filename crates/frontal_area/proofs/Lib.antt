pub mod FrontalLaws
pub mod PromisesHold
