pub mod Additions
pub mod Covered
pub mod Making
pub mod Members
