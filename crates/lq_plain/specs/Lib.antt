pub mod Named
pub mod Order
pub mod Outcome
pub mod Refusal
pub mod Subject
