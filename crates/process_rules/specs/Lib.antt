pub mod Processes
pub mod Origins
pub mod Runs
pub mod Behind
pub mod Owing
pub mod laws
