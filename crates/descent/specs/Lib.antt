pub mod Descent
pub mod Promises
pub mod PrivatePredicted
pub mod PrivateSettled
