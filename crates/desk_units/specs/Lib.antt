pub mod UnitsValue
pub mod Checks
pub mod Verbs
pub mod NameTable
pub mod PairTable
pub mod StandBys
