pub mod Commands
pub mod Matches
pub mod Parts
pub mod Ranges
pub mod Words
