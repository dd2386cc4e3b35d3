pub mod Answers
pub mod InColumns
