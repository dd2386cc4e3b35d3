pub mod Kinds
pub mod Cells
pub mod Body
pub mod Lent
