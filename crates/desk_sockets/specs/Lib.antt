pub mod Faults
pub mod Followed
