pub mod Literals
pub mod FloatLaws
pub mod DoublingLaws
pub mod TwiceGuess
pub mod LaneLaws
pub mod StepLaws
