pub mod FileLimits
pub mod Laws
pub mod Rebuilding
