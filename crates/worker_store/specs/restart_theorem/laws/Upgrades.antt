-- Laws of upgrades: which version lives show, and what an upgrade holds for good.
use Rattle.std.specs.Prelude.{◌≡◌, ◌+◌, ℕ, ◌≤◌, List, [], ◌∷◌, ◌++◌, length}
use Rattle.wasm_syntax.specs.declared.module.Module.{Module}
use Rattle.wasi_abi.specs.declared.version.Version.TheVariants.{One, Two}
use Rattle.wasi_abi.specs.rules.Configs.{Settings}
use Rattle.process_rules.specs.Processes.{ProcessState}
use Rattle.process_rules.specs.Runs.{Kept, Wider, widened, Reaches}
use Rattle.state_image.specs.rules.ProcessImage.{Saved}
use Rattle.worker_store.specs.restart_theorem.Lives.{Act, Upgrade, Inputs, Reply, Done, Event, Told}
use Rattle.worker_store.specs.restart_theorem.Lives.{Asked, Opened, Ended, Life, events_of}
use Rattle.worker_store.specs.restart_theorem.Lives.{kept_by_end}
use Rattle.worker_store.specs.restart_theorem.Courses.{Stage, Open, phase_ended}
use Rattle.worker_store.specs.restart_theorem.Promises.{Promise, IsEnding, GoesOn}
use Rattle.worker_store.specs.restart_theorem.laws.Laws.{TellBeyond}

-- ---- only an upgrade changes the version

-- none of these events is the end of an upgrade
abbrev pub UpgradeNone : List Event → Type 0
UpgradeNone [] = Unit {0}
UpgradeNone (Ended Upgrade reply held shown ∷ events) = ⊥
UpgradeNone (e ∷ events) = UpgradeNone events

-- each process shown here is of version 1: where a life opens, and where a call ends
abbrev pub ShowOne : List Event → Type 0
ShowOne [] = Unit {0}
ShowOne (Told r is_taken ∷ events) = ShowOne events
ShowOne (Asked steps question said fits ∷ events) = ShowOne events
ShowOne (Opened held shown ∷ events) = (shown.version ≡ One) × ShowOne events
ShowOne (Ended act reply held shown ∷ events) = (shown.version ≡ One) × ShowOne events

-- No opening, slice or checkpoint widens a process.
abbrev pub OnlyUpgradesWiden : Type 0
OnlyUpgradesWiden =
    (m : Module) (config : Settings) (inputs : List Inputs) (lives : List Life)
    (earlier later : List Event) → GoesOn m config inputs lives
    → events_of lives ≡ earlier ++ later → UpgradeNone earlier → ShowOne earlier

-- Where the end of a call adds to what is kept, that is one widening at the process shown. This is
-- the process that all answers kept before lead to, but for that.
pub record IsWidened (m : Module) (config : Settings) (kept : List Kept) (act : Act) (held : ℕ)
    (shown : Saved) : Type 0 where
  pub is_upgrade : act ≡ Upgrade
  pub kept_is : kept_by_end act shown kept ≡ kept ++ Wider shown.steps ∷ []
  pub all : held ≡ length kept + 1
  pub version : shown.version ≡ Two
  pub process : ProcessState
  pub reached : Reaches m config kept shown.steps process
  pub narrow : process.host.version ≡ One
  pub wide : Reaches m config (kept ++ Wider shown.steps ∷ []) shown.steps (widened process)
  pub lines : shown.lines ≡ length process.host.lines

abbrev pub EndsWidenOnce : Type 0
EndsWidenOnce =
    (m : Module) (config : Settings) (so_far : Promise) (stage : Stage) (act : Act) (reply : Reply)
    (held : ℕ) (shown : Saved)
    → IsEnding m config so_far stage
    (record { act = act; reply = reply; held = held; shown = shown })
    → (kept_by_end act shown so_far.kept ≡ so_far.kept → ⊥)
    → IsWidened m config so_far.kept act held shown

-- ---- what is for good

-- Each life that opens here is of version 2, and has taken so many answers and steps at least.
abbrev pub OpenInTwo : ℕ → ℕ → List Event → Type 0
OpenInTwo a n [] = Unit {0}
OpenInTwo a n (Told r is_taken ∷ events) = OpenInTwo a n events
OpenInTwo a n (Asked steps question said fits ∷ events) = OpenInTwo a n events
OpenInTwo a n (Opened held shown ∷ events) =
    (shown.version ≡ Two) × (a ≤ held) × (n ≤ shown.steps) × OpenInTwo a n events
OpenInTwo a n (Ended act reply held shown ∷ events) = OpenInTwo a n events

-- Once an upgrade is done, each later life opens in version 2, with all that the process had taken.
abbrev pub UpgradesAreForGood : Type 0
UpgradesAreForGood =
    (m : Module) (config : Settings) (inputs : List Inputs) (lives : List Life)
    (earlier later : List Event) (held : ℕ) (shown : Saved) → GoesOn m config inputs lives
    → events_of lives ≡ earlier ++ Ended Upgrade Done held shown ∷ later
    → OpenInTwo held shown.steps later

-- So it is once a life has opened in version 2.
abbrev pub WideOpeningsAreForGood : Type 0
WideOpeningsAreForGood =
    (m : Module) (config : Settings) (inputs : List Inputs) (lives : List Life)
    (earlier later : List Event) (held : ℕ) (shown : Saved) → GoesOn m config inputs lives
    → events_of lives ≡ earlier ++ Opened held shown ∷ later → shown.version ≡ Two
    → OpenInTwo held shown.steps later

-- each call here that has not failed shows version 2
abbrev pub EndInTwo : List Event → Type 0
EndInTwo [] = Unit {0}
EndInTwo (Ended act reply held shown ∷ events) =
    (phase_ended reply ≡ Open → shown.version ≡ Two) × EndInTwo events
EndInTwo (e ∷ events) = EndInTwo events

-- Then no slice or checkpoint makes the process one of version 1 again.
abbrev pub UpgradedStayWide : Type 0
UpgradedStayWide =
    (m : Module) (config : Settings) (inputs : List Inputs) (lives : List Life)
    (earlier later : List Event) (held : ℕ) (shown : Saved) → GoesOn m config inputs lives
    → events_of lives ≡ earlier ++ Ended Upgrade Done held shown ∷ later → EndInTwo later

-- The lines of a process whose upgrade was done are told no more.
abbrev pub UpgradedLinesAreToldNoMore : Type 0
UpgradedLinesAreToldNoMore =
    (m : Module) (config : Settings) (inputs : List Inputs) (lives : List Life)
    (earlier later : List Event) (held : ℕ) (shown : Saved) → GoesOn m config inputs lives
    → events_of lives ≡ earlier ++ Ended Upgrade Done held shown ∷ later
    → TellBeyond shown.lines later
