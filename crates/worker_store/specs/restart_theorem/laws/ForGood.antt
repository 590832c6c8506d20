-- What is for good in lives from whatever was promised before: of a worker that goes on from what
-- another one has left, too.
use Rattle.std.specs.Prelude.{◌≡◌, ℕ, List, ◌∷◌, ◌++◌}
use Rattle.wasm_syntax.specs.declared.module.Module.{Module}
use Rattle.wasi_abi.specs.declared.version.Version.TheVariants.{One, Two}
use Rattle.wasi_abi.specs.rules.Configs.{Settings}
use Rattle.process_rules.specs.Behind.{AnswersBehindSync}
use Rattle.process_rules.specs.Runs.{version_after}
use Rattle.state_image.specs.rules.ProcessImage.{Saved}
use Rattle.worker_store.specs.restart_theorem.Lives.{Act, Checkpoint, Upgrade, Inputs, Reply, Done}
use Rattle.worker_store.specs.restart_theorem.Lives.{Event, Opened, Ended, Life, events_of}
use Rattle.worker_store.specs.restart_theorem.Lives.{kept_after}
use Rattle.worker_store.specs.restart_theorem.Promises.{Promise, GoOn}
use Rattle.worker_store.specs.restart_theorem.laws.Laws.{OpenWith, HasReturned, TellBeyond}
use Rattle.worker_store.specs.restart_theorem.laws.Upgrades.{UpgradeNone, ShowOne, OpenInTwo}
use Rattle.worker_store.specs.restart_theorem.laws.Upgrades.{EndInTwo}

-- What `Laws.antt` and `Upgrades.antt` say of a worker from its creation on holds of these lives.
pub record StaysForGood (m : Module) (config : Settings) (so_far : Promise) (lives : List Life)
    : Type 0 where
  -- each later life has what one has opened with, and what a checkpoint held
  pub openings : (earlier later : List Event) (held : ℕ) (shown : Saved)
      → events_of lives ≡ earlier ++ Opened held shown ∷ later → OpenWith held shown.steps later
  pub checkpoints : (earlier later : List Event) (held : ℕ) (shown : Saved)
      → events_of lives ≡ earlier ++ Ended Checkpoint Done held shown ∷ later
      → OpenWith held shown.steps later
  -- and the answers behind a guest sync that has returned
  pub syncs : (earlier later : List Event) (act : Act) (reply : Reply) (held : ℕ) (shown : Saved)
      (k a : ℕ) → events_of lives ≡ earlier ++ Ended act reply held shown ∷ later
      → HasReturned reply k shown.steps
      → AnswersBehindSync m config (kept_after so_far.kept earlier) k a → OpenWith a 0 later
  -- the lines of an opening, a checkpoint or an upgrade are told no more
  pub opened_lines : (earlier later : List Event) (held : ℕ) (shown : Saved)
      → events_of lives ≡ earlier ++ Opened held shown ∷ later → TellBeyond shown.lines later
  pub saved_lines : (earlier later : List Event) (held : ℕ) (shown : Saved)
      → events_of lives ≡ earlier ++ Ended Checkpoint Done held shown ∷ later
      → TellBeyond shown.lines later
  pub upgraded_lines : (earlier later : List Event) (held : ℕ) (shown : Saved)
      → events_of lives ≡ earlier ++ Ended Upgrade Done held shown ∷ later
      → TellBeyond shown.lines later
  -- what was upgraded, or has opened in version 2, stays so
  pub upgrades : (earlier later : List Event) (held : ℕ) (shown : Saved)
      → events_of lives ≡ earlier ++ Ended Upgrade Done held shown ∷ later
      → OpenInTwo held shown.steps later
  pub wide_openings : (earlier later : List Event) (held : ℕ) (shown : Saved)
      → events_of lives ≡ earlier ++ Opened held shown ∷ later → shown.version ≡ Two
      → OpenInTwo held shown.steps later
  pub upgraded_calls : (earlier later : List Event) (held : ℕ) (shown : Saved)
      → events_of lives ≡ earlier ++ Ended Upgrade Done held shown ∷ later → EndInTwo later
  -- and nothing but an upgrade makes it so, where it began in version 1
  pub only_upgrades : (earlier later : List Event) → version_after so_far.kept ≡ One
      → events_of lives ≡ earlier ++ later → UpgradeNone earlier → ShowOne earlier

abbrev pub WhatIsForGood : Type 0
WhatIsForGood =
    (m : Module) (config : Settings) (so_far : Promise) (inputs : List Inputs) (lives : List Life)
    → GoOn m config so_far inputs lives → StaysForGood m config so_far lives
