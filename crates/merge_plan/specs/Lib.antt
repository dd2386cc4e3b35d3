pub mod Joining
pub mod Planned
pub mod Grouping
