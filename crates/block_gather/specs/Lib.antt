pub mod Picked
pub mod Gathered
