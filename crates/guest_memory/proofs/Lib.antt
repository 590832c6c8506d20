pub mod ByteLemmas
pub mod Ranges
pub mod Lists
