pub mod Chunks
pub mod EntryLaws
pub mod Fronts
pub mod Standing
