pub mod Lists
pub mod Places
pub mod Latest
pub mod Prefixes
pub mod Rising
pub mod Admitted
mod LatestPlaces
mod OtherNodes
mod DifferentClients
pub mod ClientRows
pub mod Tallies
pub mod KeepsCommitted
pub mod NeverFalls
pub mod JoinedLogs
pub mod NodeRows
pub mod CommonPrefix
pub mod KnownPrefix
