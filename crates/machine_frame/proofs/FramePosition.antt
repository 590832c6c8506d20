pub mod Walking
pub mod Counts
pub mod Positions
pub mod Ending
pub mod Effects
pub mod LeadingOn
pub mod Branching
