pub mod Commits
pub mod Entries
pub mod Faults
pub mod Offers
pub mod Settled
pub mod Shared
