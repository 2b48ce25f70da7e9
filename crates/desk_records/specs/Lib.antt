pub mod Same
pub mod Records
pub mod Streams
pub mod Laws
