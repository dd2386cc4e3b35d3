pub mod Token
pub mod Lexing
pub mod Reading
pub mod Faults
pub mod Clauses
pub mod Texts
