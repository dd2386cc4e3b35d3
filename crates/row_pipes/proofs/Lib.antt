pub mod Extracting
pub mod Splitting
