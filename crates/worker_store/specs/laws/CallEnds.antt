-- How a worker's call ends, as an event of a life.
use Rattle.std.specs.Prelude.{◌≡◌, ◌≢◌, ◌⊎◌, ℕ, ◌+◌, ◌≤◌, ◌<◌, List, ◌∷◌, ◌++◌, length}
use Rattle.std.specs.Prelude.{Option, Some, None}
use Rattle.wasm_syntax.specs.declared.module.Module.{Module}
use Rattle.wasm_syntax.specs.declared.types.FunctionType.{FunctionType}
use Rattle.wasm_rules.specs.Validity.{module_context, AreFunctionTypes}
use Rattle.wasi_abi.specs.declared.numbers.TheConstants.{NUMBERS_END}
use Rattle.wasi_abi.specs.declared.answer.Answer.{Answer}
use Rattle.wasi_abi.specs.declared.version.Version.TheVariants.{Two}
use Rattle.wasi_abi.specs.rules.Configs.{Settings}
use Rattle.process_rules.specs.Processes.{Ending, ProcessState, Guest, IsStart}
use Rattle.process_rules.specs.Runs.{Kept, Runs}
use Rattle.process.specs.rules.Stops.{IsBeyond}
use Rattle.disk_layout.specs.rules.Journal.{TakesRecords}
use Rattle.state_image.specs.rules.ProcessImage.{Saved, SavedShowsProcess}
use Rattle.worker_store.specs.restart_theorem.Lives.{Act, Reply, Spent, Waits, Over, Done, Fails}
use Rattle.worker_store.specs.restart_theorem.Lives.{Cause, OfDisk, OfBounds, Ended, kept_by_end}
use Rattle.worker_store.specs.restart_theorem.Courses.{Stage, Phase, Open, NoneThere, MayFail}
use Rattle.worker_store.specs.restart_theorem.Courses.{next_stage}
use Rattle.worker_store.specs.restart_theorem.Courses.{IsInBatch, HasLastAsked, phase_ended}
use Rattle.worker_store.specs.restart_theorem.Promises.{Promise, after, fuel_of, MayPlead, IsEnding}
use Rattle.worker_store.specs.laws.Acts.{TakesSteps, SavesWith, ShowsItsVersion}
use Rattle.worker_store.specs.laws.Underway.{IsUnderWay, IsBroken, standstill}
use Rattle.worker_store.specs.rules.BetweenCalls.{IsBetween}

-- A process comes to another one by these, without a step and without a line.
pub record ComesAtOnce (guest : Guest) (p : ProcessState) (more : List Kept) (q : ProcessState)
    : Type 0 where
  pub runs : Runs guest p more 0 q
  pub lines : length q.host.lines ≡ length p.host.lines

-- what an act saves: the answers that it keeps besides, the process, and how that is shown
pub record Saving : Type 0 where
  pub more : List Kept
  pub process : ProcessState
  pub shown : Saved

-- of these
abbrev pub saving : List Kept → ProcessState → Saved → Saving
saving more process shown = record { more = more; process = process; shown = shown }

module _ (m : Module) (config : Settings) (guest : Guest) where
  -- this is the process as it is saved
  pub record IsSavedAs (p : ProcessState) (shown : Saved) : Type 0 where
    pub functions : List FunctionType
    pub function_types : AreFunctionTypes m functions
    pub table : List (Option ℕ)
    pub shows : SavedShowsProcess (module_context m functions) guest.program table shown p

  -- ---- an act that takes steps

  -- Such an act that is over, all of whose lines were told.
  pub record IsSliceOver (promise : Promise) (stage : Stage) (act : Act) (p : ProcessState)
      (shown : Saved) : Type 0 where
    pub way : IsUnderWay m config guest promise stage act (length p.host.lines) p
    pub saved : IsSavedAs p shown

  abbrev pub SpentSlicesEnd : Type 0
  SpentSlicesEnd =
      (promise : Promise) (stage : Stage) (act : Act) (p : ProcessState) (shown : Saved)
      → IsSliceOver promise stage act p shown → p.steps ≡ stage.step + fuel_of act → p.ended ≡ None
      → IsEnding m config promise stage (record {
        act = act;
        reply = Spent;
        held = length promise.kept;
        shown = shown;
      })

  abbrev pub EndedSlicesEnd : Type 0
  EndedSlicesEnd =
      (promise : Promise) (stage : Stage) (act : Act) (p : ProcessState) (shown : Saved)
      (why : Ending) → IsSliceOver promise stage act p shown → p.ended ≡ Some why
      → IsEnding m config promise stage (record {
        act = act;
        reply = Over why;
        held = length promise.kept;
        shown = shown;
      })

  -- Where an answer isn't there, all lines were told.
  abbrev pub WaitingSlicesEnd : Type 0
  WaitingSlicesEnd =
      (promise : Promise) (stage : Stage) (act : Act) (p : ProcessState) (shown : Saved)
      → IsBroken m config guest promise stage act
      (standstill (length promise.kept) p (NoneThere p.steps))
      → IsSavedAs p shown → stage.line ≡ Some (length p.host.lines) → p.ended ≡ None
      → p.steps < stage.step + fuel_of act
      → IsEnding m config promise stage (record {
        act = act;
        reply = Waits;
        held = length promise.kept;
        shown = shown;
      })

  -- where a number is at its end, it is that of the next step or of its lines, or so much has
  -- happened
  abbrev pub HasBound : Promise → ProcessState → Cause → Type 0
  HasBound promise p OfBounds = ((given : Option Answer) × IsBeyond guest p given)
      ⊎ (NUMBERS_END ≤ promise.events + 1)
  HasBound promise p _ = Unit {0}

  -- An error ends it, where something may come from that.
  abbrev pub FailedSlicesEnd : Type 0
  FailedSlicesEnd =
      (promise : Promise) (stage : Stage) (act : Act) (held : ℕ) (p : ProcessState) (shown : Saved)
      (phase : Phase) (cause : Cause)
      → IsBroken m config guest promise stage act (standstill held p phase) → IsSavedAs p shown
      → MayFail phase cause → HasBound promise p cause
      → IsEnding m config promise stage (record {
        act = act;
        reply = Fails cause;
        held = held;
        shown = shown;
      })

  -- The disk fails a batch behind its last question, before the lines that wait are told.
  abbrev pub LateFaultsEnd : Type 0
  LateFaultsEnd =
      (promise : Promise) (stage : Stage) (act : Act) (held : ℕ) (p : ProcessState) (shown : Saved)
      → IsBroken m config guest promise stage act (standstill held p stage.phase)
      → IsSavedAs p shown → IsInBatch stage.acts → HasLastAsked stage.phase
      → IsEnding m config promise stage (record {
        act = act;
        reply = Fails OfDisk;
        held = held;
        shown = shown;
      })

  -- ---- an act that saves

  -- An act that saves is next, and this is the process that it saves. No sync of the guest has
  -- returned beyond it. If what is kept besides widens it, the journal takes each record of version
  -- 2.
  pub record IsSavingNext (promise : Promise) (stage : Stage) (act : Act) (p : ProcessState)
      (next : Saving) : Type 0 where
    pub between : IsBetween m config guest promise stage p
    pub comes : ComesAtOnce guest p next.more next.process
    pub saved : IsSavedAs next.process next.shown
    pub saves : SavesWith promise act next.more next.shown
    pub acts : List Act
    pub is_next : stage.acts ≡ act ∷ acts
    pub synced : promise.synced ≤ p.steps
    pub room : kept_by_end act next.shown promise.kept ≢ promise.kept
        → TakesRecords Two config.journal

  abbrev pub DoneSavesEnd : Type 0
  DoneSavesEnd =
      (promise : Promise) (stage : Stage) (act : Act) (more : List Kept) (p q : ProcessState)
      (shown : Saved) → IsSavingNext promise stage act p (saving more q shown)
      → ShowsItsVersion act shown
      → IsEnding m config promise stage (record {
        act = act;
        reply = Done;
        held = length (promise.kept ++ more);
        shown = shown;
      })

  abbrev pub FailedSavesEnd : Type 0
  FailedSavesEnd =
      (promise : Promise) (stage : Stage) (act : Act) (more : List Kept) (p q : ProcessState)
      (shown : Saved) (cause : Cause) → IsSavingNext promise stage act p (saving more q shown)
      → MayPlead config (promise.kept ++ more) stage act cause → HasBound promise q cause
      → IsEnding m config promise stage (record {
        act = act;
        reply = Fails cause;
        held = length (promise.kept ++ more);
        shown = shown;
      })

  -- ---- from call to call

  -- What is between two calls is under way in the next one, if that takes steps.
  abbrev pub SlicesBegin : Type 0
  SlicesBegin =
      (promise : Promise) (stage : Stage) (act : Act) (acts : List Act) (p : ProcessState)
      → IsBetween m config guest promise stage p → stage.acts ≡ act ∷ acts → TakesSteps act
      → length p.host.lines ≤ promise.heard → promise.passed ≤ length p.host.lines
      → IsUnderWay m config guest promise stage act (length p.host.lines) p

  -- After a call without an error it is between two calls again.
  abbrev pub CallsLeaveBetween : Type 0
  CallsLeaveBetween =
      (promise : Promise) (stage : Stage) (act : Act) (reply : Reply) (held : ℕ)
      (p : ProcessState) (shown : Saved) (start : ProcessState) → IsStart m config guest start
      → Runs guest start (after promise (Ended act reply held shown)).kept p.steps p
      → stage.line ≡ Some (length p.host.lines) → shown.steps ≡ p.steps → phase_ended reply ≡ Open
      → IsBetween m config guest (after promise (Ended act reply held shown))
      (next_stage stage (Ended act reply held shown)) p
