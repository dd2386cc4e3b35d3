pub mod Doors
pub mod Keeping
pub mod Pace
pub mod Visit
pub mod Workers
