pub mod Lines
pub mod Holding
pub mod ReplyTexts
pub mod Served
pub mod FailedCalls
