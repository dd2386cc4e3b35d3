pub mod Drawing
pub mod Cutting
pub mod Totals
pub mod Safe
pub mod Trials
pub mod Lexed
pub mod Asking
pub mod Spelled
mod Held
mod Keeping
mod Asked
