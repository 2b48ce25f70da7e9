pub mod EpochEnds
pub mod KeyBytes
pub mod Reading
