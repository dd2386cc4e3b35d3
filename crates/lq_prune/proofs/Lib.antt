pub mod WordLaws
pub mod Lists
pub mod Known
pub mod Soundness
pub mod Pruning
