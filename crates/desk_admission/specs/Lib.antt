pub mod Handshake
pub mod Hosts
pub mod Streams
