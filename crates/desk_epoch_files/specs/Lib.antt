pub mod Additions
pub mod Causes
pub mod Ends
pub mod Members
pub mod Opening
pub mod Reports
