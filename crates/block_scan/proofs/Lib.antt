pub mod Fields
pub mod Spans
pub mod Staying
