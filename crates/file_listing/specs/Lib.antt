pub mod Separators
pub mod rules
