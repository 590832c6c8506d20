pub mod Bytes
pub mod Changes
pub mod Chunks
pub mod Files
pub mod Listings
