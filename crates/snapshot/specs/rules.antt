pub mod Calls
pub mod Heads
pub mod Images
pub mod Newest
pub mod Snapshots
pub mod Steps
