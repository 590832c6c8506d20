pub mod Bodies
pub mod Changes
pub mod Chunked
pub mod Cuts
pub mod Joined
pub mod Kept
pub mod Named
pub mod Stored
