pub mod Ends
pub mod Lacking
pub mod Putting
pub mod Queued
pub mod QueuedInOrder
pub mod Watched
pub mod Unwatched
pub mod PastStoreValue
