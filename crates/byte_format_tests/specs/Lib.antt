pub mod Padded
pub mod Again
