pub mod Script
pub mod ReportText
pub mod WorldRun
