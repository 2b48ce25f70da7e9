pub mod IndexChanges
pub mod PlaceLists
pub mod WithoutFirst
pub mod Slots
pub mod SlotChanges
pub mod ChangedElements
pub mod ChangedPlaces
pub mod MergedLists
