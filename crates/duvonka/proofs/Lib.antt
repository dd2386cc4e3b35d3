mod Workers
mod DoorKinds
mod Vaults
