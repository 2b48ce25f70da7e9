pub mod Group
pub mod Agreement
pub mod Turns
pub mod Starts
pub mod Members
pub mod TokenTurns
