pub mod Lists
pub mod Texts
pub mod CutLists
pub mod Digits
pub mod Statuses
pub mod Runs
pub mod Starts
pub mod Taken
