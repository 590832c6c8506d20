pub mod Jumps
pub mod Tables
pub mod Moves
pub mod Making
pub mod Contexts
