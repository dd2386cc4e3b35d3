pub mod Functional
pub mod Matched
pub mod Numbers
pub mod Values
