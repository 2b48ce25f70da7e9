pub mod Sames
pub mod Rights
pub mod RunSteps
pub mod Opening
pub mod Sealing
pub mod ReadingBack
