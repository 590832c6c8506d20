pub mod restart_theorem
pub mod rules
pub mod laws
pub mod Filling
pub mod AreaSinks
pub mod Judging
