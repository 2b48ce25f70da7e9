pub mod History
pub mod Laws
pub mod PrefixRule
pub mod Reads
pub mod Requests
pub mod Reported
pub mod Writer
