-- Steps after which something is owed to the outside (this project's own). A line that was emitted
-- has to be released, and a sync of the guest has to be one of the disk.
use Rattle.std.specs.Prelude.{◌≡◌, ◌≢◌, ◌⊎◌, ℕ, suc, None}
use Rattle.process_rules.specs.Processes.{ProcessState, Guest}
use Rattle.process_rules.specs.Runs.{Moves}
use Rattle.process_rules.specs.Behind.{Syncs}

-- the step from p to q emits a line, or is a sync of the guest
abbrev pub IsOwing : Guest → ProcessState → ProcessState → Type 0
IsOwing guest p q = (q.host.lines ≢ p.host.lines) ⊎ Syncs guest p

-- a counted step without an answer, after which nothing is owed
pub record MovesQuietly (guest : Guest) (p q : ProcessState) : Type 0 where
  pub moves : Moves guest p None q
  pub no_line : q.host.lines ≡ p.host.lines
  pub no_sync : Syncs guest p → ⊥

-- so many of them
pub data RunsQuietly (guest : Guest) : ProcessState → ℕ → ProcessState → Type 0 where
  none : {p : ProcessState} → RunsQuietly guest p 0 p
  more : {n : ℕ} {p q r : ProcessState} → MovesQuietly guest p q → RunsQuietly guest q n r
      → RunsQuietly guest p (suc n) r
