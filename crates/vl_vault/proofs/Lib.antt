pub mod Leaving
pub mod Runs
pub mod Tearing
pub mod Records
pub mod Covering
