pub mod Layout
pub mod Frame
pub mod FrameLaw
pub mod WorkedLines
