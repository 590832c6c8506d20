pub mod Examples
pub mod Filled
pub mod Laws
