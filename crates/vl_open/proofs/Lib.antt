pub mod Leaving
pub mod Found
pub mod Reports
