pub mod Arrows
pub mod Certain
pub mod Complete
pub mod Fitting
pub mod Reaching
pub mod Sound
