pub mod ByRegisterCode
pub mod Codes
pub mod Pauses
pub mod Cycles
pub mod Waiting
