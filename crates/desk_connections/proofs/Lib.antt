pub mod Bound
pub mod Keyed
