pub mod Stretches
pub mod PointsHold
