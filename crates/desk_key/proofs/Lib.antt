pub mod Filling
mod Pads
pub mod Tags
