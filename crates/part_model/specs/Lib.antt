pub mod Order
pub mod Filling
pub mod Ends
pub mod Part
