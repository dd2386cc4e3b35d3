pub mod Rule
pub mod Spelling
pub mod Reading
