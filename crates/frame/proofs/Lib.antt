pub mod FrameLawHolds
pub mod WorkedLinesHold
pub mod WaysOut
pub mod LineLaws
