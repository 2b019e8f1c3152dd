pub mod ClassTable
pub mod Mitigation
pub mod Promises
pub mod Lower
pub mod Points
pub mod PrivateOptions
