pub mod Finding
pub mod Matches
pub mod Orders
