pub mod AwaitedLemmas
pub mod WatchingLemmas
pub mod ShowingLemmas
pub mod HearingLemmas
pub mod BreakLemmas
pub mod PrintedLemmas
pub mod PaceLemmas
pub mod LivingLemmas
pub mod UpgradingLemmas
pub mod ReleasedLemmas
pub mod ShownLemmas
pub mod OnDiskLemmas
pub mod ClearedLemmas
pub mod MadeLemmas
pub mod FilledLemmas
pub mod SuccessorLemmas
mod SucceededLemmas
pub mod AnsweredLemmas
pub mod RefusalLemmas
pub mod CauseLemmas
pub mod ServedLemmas
pub mod UnwrittenLemmas
pub mod TakingLemmas
pub mod ToldLemmas
pub mod ToldLineLemmas
pub mod TrapFrameLemmas
pub mod FileLemmas
pub mod LeavingLemmas
mod SavedLemmas
mod SeedLemmas
pub mod CopiedLemmas
pub mod CountedLemmas
pub mod OpeningLemmas
pub mod StatusLineLemmas
pub mod StatusLemmas
pub mod StatusFileLemmas
pub mod MetricsLemmas
mod NodeOrderLemmas
mod FactLemmas
mod LargestLemmas
mod JsonLemmas
mod OpenedLemmas
mod HistoryLemmas
mod ExtractedLemmas
