pub mod Counts
pub mod Lines
