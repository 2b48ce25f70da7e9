pub mod Announced
pub mod Written
