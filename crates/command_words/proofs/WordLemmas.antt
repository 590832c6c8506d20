pub mod Walks
pub mod Stops
pub mod Rows
pub mod Uses
pub mod Lines
pub mod Cuts
pub mod Meets
