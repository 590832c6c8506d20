-- What a replay does with a process, the records of a journal and an outlet of lines (this
-- project's own).
use Rattle.std.specs.Prelude.{◌≡◌, ◌⊎◌, ℕ, suc, ◌-◌, ◌<◌, ◌≤◌, ◌==◌, if◌then◌else◌}
use Rattle.std.specs.Prelude.{List, [], ◌∷◌, ◌++◌, drop, Option, Some, None}
use Rattle.wasi_abi.specs.declared.answer.Answer.{Answer}
use Rattle.wasi_calls_rules.specs.WasiStates.{Line}
use Rattle.disk_layout.specs.declared.record.Record.{Record}
use Rattle.process_rules.specs.Processes.{ProcessState, Guest}
use Rattle.process_rules.specs.Runs.{Runs}
use Rattle.process.specs.rules.Values.{ProcessValue, ShowsProcess, waiting_in}
use Rattle.process.specs.rules.Stops.{CallsHost, IsBeyond}
use Rattle.record_replay.specs.rules.Calls.{Taking, Releases, all_taken, last_refused}
use Rattle.record_replay.specs.rules.Records.{Recorded}
use Rattle.record_replay.specs.declared.fault.ReplayFault.{ReplayFault}
use Rattle.record_replay.specs.declared.fault.ReplayFault.TheVariants as fault

-- ---- lines

-- The lines of p after the first so many were released, each once, in their order, with their
-- numbers, and the outlet took them.
abbrev pub TellsFrom : {O : Type 0} → Taking O → ℕ → ProcessState → O → O → Type 0
TellsFrom takes released p outlet outlet' =
    Releases takes outlet (all_taken (suc released) (drop released p.host.lines)) outlet'

-- Some of these lines were released, and then the next one was refused. That was the last release.
pub record RefusesFrom {O : Type 0} (takes : Taking O) (released : ℕ) (p : ProcessState)
    (outlet outlet' : O) : Type 0 where
  pub told : List Line
  pub line : Line
  pub others : List Line
  pub are : drop released p.host.lines ≡ told ++ (line ∷ others)
  pub refused : Releases takes outlet (last_refused (suc released) told line) outlet'

-- ---- a replay that is done

-- The records lead from p to a process that is then shown. All its lines were released that had
-- not been before.
pub record ReplaysTo {O : Type 0} (takes : Taking O) (old : ProcessValue) (records : List Record)
    (new : ProcessValue) (guest : Guest) (p : ProcessState) (outlet outlet' : O) : Type 0 where
  pub process : ProcessState
  pub recorded : Recorded guest p records process
  pub shows : ShowsProcess new guest process
  pub told : TellsFrom takes old.host.released process outlet outlet'

-- No line waits. Whichever process was shown, the records have led on from that.
pub record Replays {O : Type 0} (takes : Taking O) (old : ProcessValue) (records : List Record)
    (new : ProcessValue) (outlet outlet' : O) : Type 0 where
  pub none_waits : waiting_in new ≡ []
  pub shown : (guest : Guest) (p : ProcessState) → ShowsProcess old guest p
      → ReplaysTo takes old records new guest p outlet outlet'

-- ---- a replay that is refused

-- how many steps lie before the one that takes the next answer on record; none, where none is left
abbrev pub steps_before : ProcessState → List Record → ℕ
steps_before p [] = 0
steps_before p (next ∷ others) = next.step - 1 - p.steps

-- The first of the records lead to a process, and so many steps before that of the next record on
-- to another one. Behind the last record there is no step.
pub record ReplaysUpTo (guest : Guest) (p : ProcessState) (records : List Record) : Type 0 where
  pub front : List Record
  pub rest : List Record
  pub are : records ≡ front ++ rest
  pub reached : ProcessState
  pub recorded : Recorded guest p front reached
  pub steps : ℕ
  pub process : ProcessState
  pub runs : Runs guest reached [] steps process
  pub within : steps ≤ steps_before reached rest

-- the answer that the next step is to take: that of the record of this step, else none
abbrev pub answer_due : ProcessState → Record → Option Answer
answer_due p next = if suc p.steps == next.step then Some next.answer else None

-- no steps from p on end with one that takes this answer under its number
abbrev pub FitsNowhere : Guest → ProcessState → Record → Type 0
FitsNowhere guest p next = (q : ProcessState) → Recorded guest p (next ∷ []) q → ⊥

-- The next record fits nothing, or a step up to it can't be counted.
abbrev pub Diverges : Guest → ProcessState → List Record → ProcessState → Type 0
Diverges guest reached [] p = ⊥
Diverges guest reached (next ∷ others) p = FitsNowhere guest reached next
    ⊎ ((p.ended ≡ None) × (p.steps < next.step) × IsBeyond guest p (answer_due p next))

-- the next step, which isn't after the next record, is a call of the host
abbrev pub WantsMemory : Guest → List Record → ProcessState → Type 0
WantsMemory guest [] p = ⊥
WantsMemory guest (next ∷ others) p =
    (p.ended ≡ None) × (p.steps < next.step) × CallsHost guest p

-- Why a replay stops that has come so far. All lines of the process were released, up to the one
-- that was refused.
abbrev pub StopsReplay : {O : Type 0} {guest : Guest} {p : ProcessState} {records : List Record}
    → Taking O → ℕ → ReplaysUpTo guest p records → ReplayFault → O → O → Type 0
StopsReplay {guest = guest} takes released come fault.Diverged outlet outlet' =
    TellsFrom takes released come.process outlet outlet'
    × Diverges guest come.reached come.rest come.process
StopsReplay {guest = guest} takes released come fault.Memory outlet outlet' =
    TellsFrom takes released come.process outlet outlet'
    × WantsMemory guest come.rest come.process
StopsReplay takes released come fault.Outlet outlet outlet' =
    RefusesFrom takes released come.process outlet outlet'

-- whichever process was shown
abbrev pub ReplaysInVain : {O : Type 0} → Taking O → ProcessValue → List Record → ReplayFault
    → O → O → Type 0
ReplaysInVain takes old records why outlet outlet' =
    (guest : Guest) (p : ProcessState) → ShowsProcess old guest p
    → (come : ReplaysUpTo guest p records)
    × StopsReplay takes old.host.released come why outlet outlet'
