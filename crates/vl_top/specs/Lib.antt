pub mod Task
pub mod Vault
pub mod Run
pub mod Server
pub mod Trial
