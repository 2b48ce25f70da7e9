pub mod Texts
pub mod Heads
pub mod Routes
pub mod Policy
