pub mod Links
pub mod Steps
pub mod Store
pub mod laws
pub mod rules
pub mod Nearest
