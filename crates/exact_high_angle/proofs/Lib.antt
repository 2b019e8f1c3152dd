pub mod FifthPowers
pub mod Energy
pub mod Between
pub mod LiesInBracket
pub mod Width
pub mod ComparedSides
pub mod AccuracyHolds
pub mod PointsHold
