pub mod ExactArea
pub mod ExactPoint
pub mod PointTable
pub mod Points
pub mod Accuracy
