pub mod Replacements
pub mod Ends
pub mod PastRows
pub mod EpochValue
pub mod Deeds
pub mod Does
pub mod Laws
