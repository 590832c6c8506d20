pub mod Floats
pub mod FunctionNames
pub mod Places
pub mod Uses
