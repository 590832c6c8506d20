pub mod Told
pub mod SeedLemmas
pub mod LimitLemmas
pub mod LineLemmas
pub mod ListingLemmas
pub mod PrinterLemmas
mod RecordLemmas
pub mod WordLemmas
pub mod FrontLemmas
pub mod VerdictLemmas
pub mod FloatLemmas
pub mod EntryLemmas
pub mod PieceLemmas
pub mod PreparingLemmas
pub mod SeparatorLemmas
