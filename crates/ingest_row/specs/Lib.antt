pub mod Ingest
pub mod Prepared
pub mod Refusal
pub mod Intake
pub mod Weighing
pub mod Asked
pub mod Syslog
