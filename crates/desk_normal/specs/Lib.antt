pub mod Acknowledgements
pub mod Candidates
pub mod Rules
pub mod CommitPlan
pub mod Laws
pub mod PlaceLaws
pub mod Next
