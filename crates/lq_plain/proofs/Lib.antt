pub mod Conditions
pub mod Inserting
pub mod Naming
pub mod Outcomes
pub mod Phrases
pub mod Reading
pub mod Splitting
pub mod Moments
