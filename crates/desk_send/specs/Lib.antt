pub mod Replies
pub mod Exchanges
