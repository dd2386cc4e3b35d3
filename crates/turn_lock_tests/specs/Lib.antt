pub mod Room
pub mod Log
pub mod Refusal
pub mod OneTurn
