pub mod Ranges
pub mod Lines
pub mod Sheet
pub mod Acceptance
pub mod Growth
pub mod Points
pub mod PrivateBounds
pub mod PrivateAreaTenths
