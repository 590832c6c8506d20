pub mod DiskCauses
pub mod Answered
pub mod Copied
pub mod Counted
pub mod Released
pub mod LargestDisks
