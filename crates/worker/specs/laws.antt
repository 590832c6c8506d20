pub mod Adding
pub mod Bounds
pub mod Causes
pub mod Copies
pub mod Followings
pub mod OneLife
pub mod Replies
pub mod Uncut
