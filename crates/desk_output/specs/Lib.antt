pub mod Joined
pub mod Prefixes
pub mod Printing
