pub mod Ends
pub mod Gathered
pub mod Rule
