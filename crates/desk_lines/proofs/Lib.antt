pub mod Splits
pub mod LinesSoFar
pub mod Serving
pub mod FailedCalls
