pub mod State
pub mod Finds
pub mod Reopening
pub mod Preparing
