pub mod Contexts
pub mod Parts
