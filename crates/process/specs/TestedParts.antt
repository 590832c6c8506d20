-- What the counts of a process are tested for that is put together from its parts.
use Rattle.std.specs.Prelude.{ℕ, ◌+◌, ◌<◌, ◌≤◌, ◌^◌}
use Rattle.wasi_abi.specs.declared.version.Version.{Version}
use Rattle.wasi_abi.specs.rules.Versions.{widenings}

-- Steps are numbered. No more answers were taken than steps, but for the widening, and no more
-- requests than answers.
pub record AreCounted (version : Version) (steps answers requests : ℕ) : Type 0 where
  pub few_steps : steps < 2 ^ 63
  pub few_answers : answers ≤ steps + widenings version
  pub few_requests : requests ≤ answers
