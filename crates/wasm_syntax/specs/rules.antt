pub mod Instructions
pub mod Items
pub mod Limits
pub mod Modules
pub mod Sequence
