pub mod Answering
pub mod Columns
pub mod Dictionaries
pub mod FirstPlaces
pub mod Leading
pub mod Named
pub mod Orders
pub mod Picked
pub mod Places
pub mod Ranking
mod ReadGroups
pub mod SortedPlaces
pub mod Tallying
