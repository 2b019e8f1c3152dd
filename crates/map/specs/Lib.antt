pub mod Size
pub mod Map
pub mod TableRow
pub mod Refusals
pub mod Points
pub mod PrivateCounts
pub mod GroundMap
