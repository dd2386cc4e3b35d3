pub mod Firsts
pub mod Joined
pub mod Most
pub mod Operated
pub mod Patterns
pub mod Stops
pub mod Turned
