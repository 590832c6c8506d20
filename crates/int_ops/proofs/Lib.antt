pub mod Bounds
pub mod Rotations
