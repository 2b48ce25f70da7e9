pub mod Nodes
pub mod Groups
pub mod Stops
pub mod EpochNodes
pub mod EpochGroups
pub mod EpochMembers
pub mod EpochStops
pub mod FirstStarts
