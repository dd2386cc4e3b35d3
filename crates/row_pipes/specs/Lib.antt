pub mod Faults
pub mod Worth
