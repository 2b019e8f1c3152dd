pub mod FrontalArea
pub mod Promises
