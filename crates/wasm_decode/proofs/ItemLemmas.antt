pub mod Binds
pub mod Bounded
pub mod Fails
pub mod Imports
pub mod Locals
pub mod Powers
