pub mod Distinct
pub mod Tags
pub mod Keys
pub mod Columns
pub mod Texts
