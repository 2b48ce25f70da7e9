pub mod FirstFrames
pub mod Cuttings
pub mod Pieces
pub mod Lengths
pub mod Receiving
mod Steps
mod Keeping
mod Feeds
pub mod Building
