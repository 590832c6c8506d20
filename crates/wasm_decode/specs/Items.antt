pub mod Answers
pub mod Bounded
pub mod Entries
pub mod Steps
