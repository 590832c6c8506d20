pub mod Examples
pub mod Laws
pub mod ModuleLimits
pub mod ReadingInstructions
pub mod ReadingItems
pub mod ReadingModules
pub mod ReadingWithin
