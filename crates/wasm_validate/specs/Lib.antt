pub mod Bodies
pub mod Parts
pub mod Body
pub mod laws
pub mod rules
