pub mod AreaLemmas
pub mod ReadLemmas
pub mod HeadLemmas
pub mod StoreCalls
mod StoreLemmas
pub mod SpareLemmas
pub mod WriterLemmas
pub mod ByteLemmas
pub mod SnapshotLemmas
pub mod PushLemmas
pub mod LawLemmas
mod ExampleLemmas
mod HashingLemmas
mod CallExamples
mod StateLemmas
