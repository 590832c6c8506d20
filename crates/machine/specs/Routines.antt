pub mod Making
pub mod Routines
