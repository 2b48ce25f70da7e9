pub mod Logs
pub mod SavedCuts
