pub mod Closing
pub mod EpochEnd
pub mod EpochTable
pub mod Faults
pub mod Keys
pub mod Names
pub mod Reading
pub mod Unopened
