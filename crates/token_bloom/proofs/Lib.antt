pub mod Places
pub mod Added
pub mod Remainders
pub mod Numbers
pub mod Commutes
pub mod OneWord
pub mod HeldLaws
