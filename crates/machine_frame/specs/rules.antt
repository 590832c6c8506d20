pub mod Stacked
pub mod FramePosition
pub mod Threads
pub mod Walks
