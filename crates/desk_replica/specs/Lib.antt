pub mod Answers
pub mod Endings
pub mod EpochPackets
pub mod Saving
pub mod Owners
