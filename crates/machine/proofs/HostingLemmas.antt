pub mod Programs
pub mod Begun
pub mod Answered
