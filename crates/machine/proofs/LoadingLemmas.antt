pub mod Words
pub mod Parts
pub mod Bodies
pub mod Frames
pub mod Fits
