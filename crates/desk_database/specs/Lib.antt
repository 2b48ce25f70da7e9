pub mod NewFile
pub mod Opening
