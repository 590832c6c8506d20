pub mod Barriers
pub mod Filled
pub mod Packed
pub mod State
pub mod Steps
