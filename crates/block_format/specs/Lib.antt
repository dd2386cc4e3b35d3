pub mod Labels
pub mod Keys
pub mod Columns
pub mod Found
pub mod Parts
pub mod Rows
pub mod Spelling
pub mod Reading
