pub mod Refusals
pub mod NameTables
pub mod PairTables
pub mod MovedPairs
pub mod StandBys
pub mod MergedStandBys
