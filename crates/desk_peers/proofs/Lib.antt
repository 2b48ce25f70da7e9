pub mod Carrying
pub mod Ends
pub mod Headers
pub mod Opening
pub mod Putting
pub mod Sending
pub mod Starts
pub mod Subsequences
