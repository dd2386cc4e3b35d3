pub mod Bits
pub mod Modulus
pub mod Filter
pub mod Held
