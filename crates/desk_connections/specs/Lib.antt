pub mod Admitted
pub mod Links
pub mod Ports
