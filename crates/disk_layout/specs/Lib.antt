pub mod laws
pub mod rules
pub mod Held
pub mod Scanned
pub mod Spelled
pub mod Stored
