pub mod Courses
pub mod Places
pub mod Readings
pub mod Tries
pub mod Streams
