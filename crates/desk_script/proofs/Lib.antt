pub mod Numerals
pub mod ScriptLines
pub mod ReportLines
pub mod WorldTexts
