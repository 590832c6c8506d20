pub mod Legacies
pub mod Restored
pub mod Stops
pub mod Values
