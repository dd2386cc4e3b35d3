pub mod ByColumns
pub mod Seen
pub mod Again
