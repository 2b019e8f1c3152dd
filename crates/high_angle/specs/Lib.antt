pub mod SafetyFactor
pub mod HighAngle
pub mod Promises
pub mod PrivateBounds
