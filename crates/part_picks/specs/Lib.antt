pub mod Range
pub mod Ahead
pub mod Names
