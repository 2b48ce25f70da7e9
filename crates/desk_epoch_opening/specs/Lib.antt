pub mod Pasts
pub mod Opened
