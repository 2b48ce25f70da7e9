pub mod Starting
pub mod EpochEnds
pub mod Refusals
pub mod InMemory
