pub mod Disk
pub mod Calls
pub mod Moments
pub mod Record
pub mod Memory
pub mod Directory
pub mod Replay
