pub mod AreaMono
pub mod Between
pub mod FractionInBracket
pub mod AccuracyHolds
pub mod PointsHold
