pub mod Browsers
pub mod Exchanges
pub mod Laws
pub mod Lines
pub mod Sessions
pub mod Words
