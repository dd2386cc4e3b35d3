pub mod Reading
pub mod Near
pub mod Clauses
pub mod Faults
