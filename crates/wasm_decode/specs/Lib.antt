pub mod Answers
pub mod Contents
pub mod Parts
pub mod Sections
pub mod Items
pub mod rules
