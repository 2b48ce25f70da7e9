pub mod Ending
pub mod Faults
pub mod Run
