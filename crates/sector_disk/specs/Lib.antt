pub mod laws
pub mod rules
pub mod Pictures
