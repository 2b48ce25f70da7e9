pub mod Counts
pub mod Metrics
