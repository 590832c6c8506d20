pub mod Scripts
pub mod Stories
pub mod SweepTexts
pub mod Sweeps
