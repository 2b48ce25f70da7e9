pub mod PublishedEpochs
pub mod Starts
