pub mod Numbers
pub mod Step
pub mod TwoSteps
pub mod PrivateRounds
