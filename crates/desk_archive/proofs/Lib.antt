pub mod ArchivedStates
pub mod Instants
pub mod LinesInOrder
pub mod Named
