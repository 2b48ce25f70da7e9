pub mod Tables
pub mod TableInSchema
pub mod Rules
pub mod Contents
pub mod AfterRefusal
pub mod Reads
pub mod Named
