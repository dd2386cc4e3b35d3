pub mod Found
pub mod Matches
