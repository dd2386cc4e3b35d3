pub mod Behind
pub mod Denied
pub mod Firsts
pub mod Named
pub mod Parts
pub mod Plain
pub mod Times
pub mod Turning
