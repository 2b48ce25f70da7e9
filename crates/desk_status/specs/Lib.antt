pub mod Levels
pub mod Lines
