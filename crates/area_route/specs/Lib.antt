pub mod AreaRoute
pub mod LeftOut
pub mod Points
