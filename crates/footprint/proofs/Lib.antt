pub mod CellLaws
pub mod RowLaws
pub mod WorstCellLaws
pub mod WalkLaws
pub mod RowOfLargestCountHolds
pub mod PromisesHold
pub mod PointsHold
