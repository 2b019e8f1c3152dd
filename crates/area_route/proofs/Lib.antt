pub mod AreaWithin
pub mod AreaRouteHolds
pub mod LeftOutHolds
pub mod PointsHold
