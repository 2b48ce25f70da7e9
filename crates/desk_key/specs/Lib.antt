pub mod Holding
pub mod Hmac
pub mod KeyText
