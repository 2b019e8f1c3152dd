pub mod Footprint
pub mod RowOfLargestCount
pub mod Promises
pub mod Points
pub mod PrivateWalk
