pub mod Bytes
pub mod Lends
pub mod Memories
