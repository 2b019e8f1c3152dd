pub mod CountLaws
pub mod ReadingLaws
pub mod PromisesHold
pub mod TextLawHolds
