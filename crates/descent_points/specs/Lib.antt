pub mod DescentPoint
pub mod PointTable
pub mod Points
