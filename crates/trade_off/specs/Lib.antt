pub mod TradeOff
pub mod Promises
pub mod PrivateGiven
pub mod PrivateSolved
