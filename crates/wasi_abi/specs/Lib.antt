pub mod Bits
pub mod laws
pub mod rules
