pub mod CommandLine
pub mod Commands
pub mod Faults
pub mod Host
pub mod Hosts
pub mod Version
