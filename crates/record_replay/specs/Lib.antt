pub mod Plays
pub mod laws
pub mod rules
pub mod Turns
