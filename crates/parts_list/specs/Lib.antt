pub mod Listing
pub mod Format
pub mod Steps
pub mod Slots
pub mod ReadAgain
pub mod Writing
pub mod Reading
