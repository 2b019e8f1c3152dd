pub mod Conditions
pub mod Rounding
pub mod Fraction
pub mod SumsAndMaxima
pub mod Lists
pub mod Each
pub mod PrivateFirstMaximum
