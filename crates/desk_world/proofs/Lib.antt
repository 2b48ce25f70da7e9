pub mod FirstEntries
pub mod ViewLog
pub mod Packets
pub mod Views
pub mod NodeInvariants
pub mod CommittedAnswers
pub mod Invariant
pub mod ChosenPrefixes
pub mod SafeSteps
pub mod NormalSteps
pub mod LongerViewLogs
pub mod AppendedRequests
pub mod Resend
pub mod BestOffers
pub mod StartedViews
pub mod ViewChange
pub mod AdoptedLogs
pub mod EventSteps
pub mod WorldInvariants
pub mod Agree
pub mod ViewLogPlaces
pub mod Facts
mod SampleEntries
mod Sample
mod Scripts
pub mod Groups
pub mod LaterWorlds
pub mod HeardCounts
pub mod BestKeepsCommitted
pub mod RaisedViews
pub mod AskedViews
pub mod Offering
pub mod Choosing
pub mod Following
pub mod Serving
pub mod NeverStuck
pub mod Reported
pub mod Requested
