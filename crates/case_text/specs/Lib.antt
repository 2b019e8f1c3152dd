pub mod Layout
pub mod Text
pub mod TextLaw
pub mod Promises
