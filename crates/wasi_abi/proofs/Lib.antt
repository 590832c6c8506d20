pub mod CallLemmas
mod ConfigLemmas
pub mod LayoutLemmas
pub mod RightsLemmas
pub mod VersionLemmas
pub mod ByteLemmas
