pub mod AnsweredLines
pub mod BrowserLines
pub mod PublishedRows
pub mod ServedInputs
