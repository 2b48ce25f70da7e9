pub mod AddedEntry
pub mod Executed
pub mod SeatSteps
pub mod Prefixes
pub mod AfterPublish
pub mod ReportedPlaces
pub mod ReportedRows
pub mod PrefixEquations
