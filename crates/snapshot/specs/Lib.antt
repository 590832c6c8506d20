pub mod Hashing
pub mod Store
pub mod Writing
pub mod laws
pub mod rules
pub mod Heads
