pub mod Frames
pub mod Lends
pub mod Outcomes
pub mod Words
pub mod laws
pub mod rules
