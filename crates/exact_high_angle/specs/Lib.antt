pub mod ExactHighAngle
pub mod Accuracy
pub mod HighAnglePoint
pub mod PointTable
pub mod Points
