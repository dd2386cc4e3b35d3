pub mod Computed
pub mod Inner
pub mod Labels
pub mod Reads
pub mod Refusal
pub mod Subject
pub mod Tree
pub mod Value
