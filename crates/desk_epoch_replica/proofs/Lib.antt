pub mod FollowedSteps
pub mod KnownEntries
pub mod SavedFronts
pub mod UntakenLogs
pub mod ReplicaSteps
pub mod DeferringSteps
pub mod Preparations
