pub mod RestartLemmas
pub mod LawLemmas
mod UnsyncedLemmas
mod LayingCounts
mod FillLemmas
mod SinkLemmas
mod SavingLemmas
mod ZeroLemmas
pub mod StoreLemmas
mod CreationLemmas
mod FirstLemmas
mod ReadLemmas
mod ReadCauseLemmas
mod AppendLemmas
mod NewestLemmas
mod ScanLemmas
