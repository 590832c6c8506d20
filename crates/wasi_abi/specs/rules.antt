pub mod Answers
pub mod Calls
pub mod Configs
pub mod Layouts
pub mod Numbers
pub mod Versions
