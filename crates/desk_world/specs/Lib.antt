pub mod World
pub mod Views
pub mod Facts
pub mod Agreement
pub mod Report
pub mod Group
pub mod NeverStuck
pub mod Requested
