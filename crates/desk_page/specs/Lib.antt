pub mod Reported
pub mod Query
pub mod Boards
pub mod Groups
pub mod Fields
pub mod Forwards
pub mod Answers
