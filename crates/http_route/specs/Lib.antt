pub mod Refusal
pub mod Route
