pub mod Headers
pub mod Incoming
pub mod Links
pub mod Outgoing
pub mod Queues
