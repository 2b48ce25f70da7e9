pub mod Keeps
pub mod Candidates
pub mod Rows
