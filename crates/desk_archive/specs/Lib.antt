pub mod Archive
pub mod Document
pub mod Lines
