pub mod ReportedFaults
