pub mod Outline
pub mod Outlines
pub mod HeldColumns
pub mod Held
