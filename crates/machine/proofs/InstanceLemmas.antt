pub mod Named
pub mod Offered
pub mod FunctionTypes
pub mod Constant
pub mod Filled
pub mod Entries
pub mod Begun
