pub mod Senders
pub mod Noted
