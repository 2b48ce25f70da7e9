pub mod Events
pub mod Heard
pub mod Lines
pub mod Rates
pub mod Written
