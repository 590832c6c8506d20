-- Acts that take steps, acts that save a worker, and what is promised in their end.
use Rattle.std.specs.Prelude.{◌≡◌, ◌⊎◌, ℕ, ◌-◌, ◌≤◌, List, [], ◌∷◌, ◌++◌}
use Rattle.wasi_abi.specs.declared.version.Version.TheVariants.{One, Two}
use Rattle.wasi_abi.specs.rules.Configs.{Settings}
use Rattle.process_rules.specs.Runs.{Kept, Wider, version_after}
use Rattle.process_rules.specs.Behind.{IsNarrowTo}
use Rattle.state_image.specs.rules.ProcessImage.{Saved}
use Rattle.worker_store.specs.restart_theorem.Lives.{Act, Slice, Batch, Checkpoint, Upgrade, Reply}
use Rattle.worker_store.specs.restart_theorem.Lives.{Cause, Ended}
use Rattle.worker_store.specs.restart_theorem.Courses.{Stage, Open, MayFail}
use Rattle.worker_store.specs.restart_theorem.Promises.{Promise, after, MayPlead}

-- An act that takes steps, in which lines are told and questions asked.
abbrev pub TakesSteps : Act → Type 0
TakesSteps (Slice fuel) = Unit {0}
TakesSteps (Batch fuel most) = Unit {0}
TakesSteps Checkpoint = ⊥
TakesSteps Upgrade = ⊥

-- How many lines may wait where it asks: in a batch fewer than `most`.
abbrev pub most_held : Act → ℕ
most_held (Batch fuel most) = most - 1
most_held act = 0

-- An act that saves: once it is done, no later life comes after the process that it shows.
abbrev pub IsSaving : Act → Type 0
IsSaving (Slice fuel) = ⊥
IsSaving (Batch fuel most) = ⊥
IsSaving Checkpoint = Unit {0}
IsSaving Upgrade = Unit {0}

-- an upgrade that is done shows version 2
abbrev pub ShowsItsVersion : Act → Saved → Type 0
ShowsItsVersion Upgrade shown = shown.version ≡ Two
ShowsItsVersion act shown = Unit {0}

-- the same promise, with more kept
abbrev pub keeping_more : Promise → List Kept → Promise
keeping_more promise more = record promise { kept = promise.kept ++ more }

-- What is kept besides may widen a process after so many steps, where that has emitted all lines
-- that were begun.
pub record MayBeKept (more : List Kept) (steps lines begun : ℕ) : Type 0 where
  pub up_to : IsNarrowTo more steps
  pub emitted : ((step : ℕ) → IsNarrowTo more step) ⊎ (begun ≤ lines)

-- An act saves this process. Once it has ended, whatever it answers, these are kept besides.
pub record SavesWith (promise : Promise) (act : Act) (more : List Kept) (shown : Saved)
    : Type 0 where
  pub saving : IsSaving act
  pub kept : (reply : Reply) (held : ℕ)
      → (after promise (Ended act reply held shown)).kept ≡ promise.kept ++ more
  pub may : MayBeKept more shown.steps shown.lines promise.begun

-- Its end promises what that of a checkpoint promises where these are kept.
abbrev pub SavingEndsAlike : Type 0
SavingEndsAlike =
    (promise : Promise) (act : Act) (more : List Kept) (shown : Saved) (reply : Reply) (held : ℕ)
    → SavesWith promise act more shown
    → after promise (Ended act reply held shown)
    ≡ after (keeping_more promise more) (Ended Checkpoint reply held shown)

-- A checkpoint keeps none besides.
abbrev pub CheckpointsSave : Type 0
CheckpointsSave = (promise : Promise) (shown : Saved) → SavesWith promise Checkpoint [] shown

-- An upgrade keeps one widening besides, where it shows version 2 of what leads to version 1, and
-- that has emitted all lines that were begun.
abbrev pub UpgradesWiden : Type 0
UpgradesWiden =
    (promise : Promise) (shown : Saved) (more : List Kept) → version_after promise.kept ≡ One
    → shown.version ≡ Two → more ≡ Wider shown.steps ∷ [] → promise.begun ≤ shown.lines
    → SavesWith promise Upgrade more shown

-- Where it shows the version that all kept answers lead to, it keeps none.
abbrev pub UpgradesSave : Type 0
UpgradesSave =
    (promise : Promise) (shown : Saved) (more : List Kept)
    → version_after promise.kept ≡ shown.version → more ≡ [] → SavesWith promise Upgrade more shown

-- Each act may fail for what any open call may fail for.
abbrev pub ActsMayFail : Type 0
ActsMayFail =
    (config : Settings) (kept : List Kept) (stage : Stage) (act : Act) (cause : Cause)
    → stage.phase ≡ Open → MayFail Open cause → MayPlead config kept stage act cause
