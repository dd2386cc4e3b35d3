pub mod Numbers
pub mod Moments
