pub mod FallLaws
pub mod FirstState
pub mod StateLaws
pub mod PromisesHold
