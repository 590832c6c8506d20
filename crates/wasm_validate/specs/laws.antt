pub mod Algorithm
pub mod Checking
pub mod FaultLaws
pub mod FirstFault
pub mod Reached
pub mod Remaining
