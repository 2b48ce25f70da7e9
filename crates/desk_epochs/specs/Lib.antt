pub mod Histories
pub mod Epochs
pub mod NeverStuck
pub mod OneLog
