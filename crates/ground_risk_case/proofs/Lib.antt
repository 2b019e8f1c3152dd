pub mod WaysOut
pub mod EndToEndHolds
pub mod PointsHold
