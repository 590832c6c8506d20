pub mod Numbers
pub mod Drafts
pub mod Lives
pub mod Full
pub mod Reading
pub mod Calm
pub mod Fronts
pub mod ReadBack
