-- Where the process of a worker is when a call of it has failed (this project's own).
use Rattle.std.specs.Prelude.{◌≡◌, ℕ, suc, ◌+◌, ⊤, List, [], ◌∷◌, ◌++◌, length}
use Rattle.wasi_calls_rules.specs.WasiStates.{Line}
use Rattle.process_rules.specs.Processes.{ProcessState, Guest}
use Rattle.process.specs.rules.Values.{ProcessValue, ShowsProcess}
use Rattle.record_replay.specs.rules.Calls.{Giving, Taking, Begun, Exchange, Exchanges}
use Rattle.record_replay.specs.rules.Calls.{AnswersInOrder, Releases, all_taken, asks_of}
use Rattle.record_replay.specs.rules.Calls.{releases_of, Ports, ports}
use Rattle.record_replay.specs.declared.slices.now.Now.{Now}
use Rattle.record_replay.specs.declared.slices.fault.SliceFault.TheVariants as slice
use Rattle.record_replay.specs.rules.Slices.{SliceLeadsTo, AreAnswered, AreWanted, IsNow}
use Rattle.worker.specs.declared.fault.WorkFault.{WorkFault}
use Rattle.worker.specs.declared.fault.WorkFault.TheVariants as work
use Rattle.worker.specs.rules.Batches.{HasUntakenAnswer, ToldUpTo, IsBatchCause}
use Rattle.worker.specs.rules.DurableFailures.{IsDiskCause, StopsAtQuestion}
use Rattle.worker.specs.rules.LifeWords.{Act, Slice, Batch, Checkpoint, Upgrade, fuel_of}
use Rattle.worker.specs.rules.Scenes.{Scene}

-- how many steps these acts may take
abbrev pub steps_among : List Act → ℕ
steps_among [] = 0
steps_among (act ∷ acts) = fuel_of act + steps_among acts

-- ---- where it has failed

-- a slice or a batch has failed there, as its own clause says
abbrev pub IsActCause : Act → Guest → ProcessState → List Exchange → ℕ → ProcessState → WorkFault
    → Type 0
IsActCause (Slice fuel) guest p exchanges steps q why =
    IsDiskCause guest p fuel exchanges steps q why
IsActCause (Batch fuel most) guest p exchanges steps q why =
    IsBatchCause guest p fuel exchanges steps q why
IsActCause Checkpoint guest p exchanges steps q why = ⊥
IsActCause Upgrade guest p exchanges steps q why = ⊥

-- How many of its releases it has made: all, or of a batch as many as its own clause says.
abbrev pub IsToldBy : {O : Type 0} → Taking O → Act → (untaken : Type 0) → WorkFault → List Begun
    → O → O → Type 0
IsToldBy takes (Batch fuel most) untaken why all outlet outlet' =
    ToldUpTo takes untaken why all outlet outlet'
IsToldBy takes act untaken why all outlet outlet' = Releases takes outlet all outlet'

-- how far a process has come: by these exchanges and so many steps, to this one
pub record Stretch : Type 0 where
  pub exchanges : List Exchange
  pub steps : ℕ
  pub process : ProcessState

-- a stretch of these
abbrev pub stretch : List Exchange → ℕ → ProcessState → Stretch
stretch exchanges steps process = record {
  exchanges = exchanges;
  steps = steps;
  process = process;
}

-- This act has failed there. Or it has answered there, when no line waits, and the checkpoint after
-- it has failed (by what, `CallsInOrder` says).
pub data IsBrokenAt {O : Type 0} (takes : Taking O) (guest : Guest) (p : ProcessState) (act : Act)
    (to : Stretch) (why : WorkFault) (outlet outlet' : O) : Type 0 where
  in_act : IsActCause act guest p to.exchanges to.steps to.process why
      → IsToldBy takes act (HasUntakenAnswer guest p to.exchanges to.steps to.process) why
      (releases_of to.exchanges) outlet outlet'
      → IsBrokenAt takes guest p act to why outlet outlet'
  in_checkpoint : (said : Now) → SliceLeadsTo guest p to.exchanges to.steps to.process
      → IsNow guest to.process to.exchanges to.steps (fuel_of act) said
      → Releases takes outlet (releases_of to.exchanges) outlet'
      → IsBrokenAt takes guest p act to why outlet outlet'

-- a process of a guest between two acts, with its source and its outlet
pub record ProcessScene (S O : Type 0) : Type 0 where
  pub guest : Guest
  pub process : ProcessState
  pub source : S
  pub outlet : O

-- of these
abbrev pub process_scene : {S O : Type 0} → Guest → ProcessState → S → O → ProcessScene S O
process_scene guest process source outlet = record {
  guest = guest;
  process = process;
  source = source;
  outlet = outlet;
}

module _ {S O : Type 0} (gives : Giving S) (takes : Taking O) (from : ProcessScene S O)
    (to : Ports S O) where
  -- Slices have led the process to one that is then shown, by all of these steps. Each question was
  -- answered. Each line that was emitted was released, and taken.
  pub record SlicesLead (steps : ℕ) (new : ProcessValue) : Type 0 where
    pub exchanges : List Exchange
    pub exchanged : Exchanges gives takes from.source from.outlet exchanges to.source to.outlet
    pub wanted : AreWanted from.guest from.process exchanges
    pub answered : AreAnswered exchanges
    pub process : ProcessState
    pub leads : SliceLeadsTo from.guest from.process exchanges steps process
    pub shows : ShowsProcess new from.guest process

  -- Acts have led the process to where the last one began, by all of their steps. From there the
  -- last one has led it to where it, or the checkpoint after it, has failed. All lines of the ones
  -- before it were told.
  pub record BreaksOff (act : Act) (all : ℕ) (why : WorkFault) : Type 0 where
    pub front : List Exchange
    pub answered : AreAnswered front
    pub steps : ℕ
    pub begun : ProcessState
    pub leads : SliceLeadsTo from.guest from.process front steps begun
    pub between : O
    pub told : Releases takes from.outlet (releases_of front) between
    pub back : List Exchange
    pub asked : AnswersInOrder gives from.source (asks_of (front ++ back)) to.source
    pub wanted : AreWanted from.guest from.process (front ++ back)
    pub more : ℕ
    pub process : ProcessState
    pub broken : IsBrokenAt takes from.guest begun act (stretch back more process) why between
        to.outlet
    pub counted : steps + fuel_of act ≡ all

  -- so it is, and the last slice itself has failed
  pub record BreaksInSlice (fuel all : ℕ) (why : WorkFault) : Type 0 where
    pub broken : BreaksOff (Slice fuel) all why
    pub cause : IsDiskCause from.guest broken.begun fuel broken.back broken.more broken.process why

-- Calls from there on, of this act, which may take so many steps, have failed so, whichever process
-- the worker showed.
abbrev pub BreaksOffFrom : {D S O : Type 0} → Giving S → Taking O → Act → ℕ → Scene D S O
    → WorkFault → S → O → Type 0
BreaksOffFrom gives takes act all from why source' outlet' =
    (guest : Guest) (p : ProcessState) → ShowsProcess from.worker.process guest p
    → BreaksOff gives takes (process_scene guest p from.source from.outlet)
    (ports source' outlet') act all why

-- so it is of slices, where the last one itself has failed
abbrev pub BreaksInSliceFrom : {D S O : Type 0} → Giving S → Taking O → (fuel all : ℕ)
    → Scene D S O → WorkFault → S → O → Type 0
BreaksInSliceFrom gives takes fuel all from why source' outlet' =
    (guest : Guest) (p : ProcessState) → ShowsProcess from.worker.process guest p
    → BreaksInSlice gives takes (process_scene guest p from.source from.outlet)
    (ports source' outlet') fuel all why

-- ---- lines

-- Whatever slice fails by this stops where an answer is to be asked for.
abbrev pub IsOfQuestion : WorkFault → Type 0
IsOfQuestion why = (guest : Guest) (p : ProcessState) (fuel : ℕ) (exchanges : List Exchange)
    (steps : ℕ) (q : ProcessState) → IsDiskCause guest p fuel exchanges steps q why
    → StopsAtQuestion guest p fuel exchanges steps q

-- no line of it waits at a question
abbrev pub TellsAtOnce : Act → Type 0
TellsAtOnce (Batch fuel most) = ⊥
TellsAtOnce act = ⊤

-- Where such an act fails by this no line waits: the source has failed. Or it is no batch, and
-- memory was refused, or a number can't be counted. That is of a step or its lines; or of a
-- generation, which is wanted at a question alone.
abbrev pub LeavesNoLine : Act → WorkFault → Type 0
LeavesNoLine act (work.Work slice.Source) = ⊤
LeavesNoLine act (work.Work slice.Memory) = TellsAtOnce act
LeavesNoLine act (work.Work (slice.Refused why)) = TellsAtOnce act
LeavesNoLine act (work.Store why) = TellsAtOnce act × IsOfQuestion (work.Store why)
LeavesNoLine act other = ⊥

-- Each line that the process has written on its way from p to q was released, once and in order,
-- with its number, and the outlet took it. No other line was released.
pub record TellsItsLines {O : Type 0} (takes : Taking O) (p q : ProcessState) (outlet outlet' : O)
    : Type 0 where
  pub lines : List Line
  pub written : q.host.lines ≡ p.host.lines ++ lines
  pub told : Releases takes outlet (all_taken (suc (length p.host.lines)) lines) outlet'
