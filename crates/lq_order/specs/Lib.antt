pub mod Column
pub mod Dictionary
pub mod First
pub mod Groups
pub mod Mirror
pub mod Places
pub mod Ranks
pub mod Tally
