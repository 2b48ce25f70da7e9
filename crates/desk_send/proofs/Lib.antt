pub mod Connections
pub mod Requests
pub mod ReplyLines
pub mod Sending
