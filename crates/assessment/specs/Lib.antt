pub mod Question
pub mod Working
pub mod Assessment
pub mod Promises
pub mod Demand3
