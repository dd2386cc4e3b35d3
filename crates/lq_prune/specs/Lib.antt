pub mod Bound
pub mod Need
pub mod Pruning
pub mod Texts
pub mod Tree
