pub mod Parts
pub mod Callings
pub mod Stretches
pub mod Successions
pub mod TestedParts
pub mod laws
pub mod rules
