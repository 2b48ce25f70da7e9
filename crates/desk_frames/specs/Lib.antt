pub mod Stream
pub mod Cuttings
pub mod Lengths
pub mod Reading
pub mod Received
pub mod Whole
pub mod Frame
