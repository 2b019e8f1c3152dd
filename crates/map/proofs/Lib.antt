pub mod TableRowLaws
pub mod MarkLaws
pub mod RowLaws
pub mod TestsPassed
pub mod PointsHold
