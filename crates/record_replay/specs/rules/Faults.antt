-- Why a worker fails, and what it has done until then.
use Rattle.std.specs.Prelude.{◌≡◌, ℕ, suc, ◌<◌, ◌≤◌, true, false, List, [], ◌∷◌, ◌++◌, length, map}
use Rattle.std.specs.Prelude.{Option, Some, None, Result, Ok, Err}
use Rattle.wasi_abi.specs.declared.answer.Question.{Question}
use Rattle.wasi_abi.specs.declared.answer.Answer.{Answer}
use Rattle.wasi_abi.specs.rules.Answers.{Fits}
use Rattle.wasi_abi.specs.rules.Versions.{text_limit}
use Rattle.wasi_calls_rules.specs.WasiStates.{Line}
use Rattle.process_rules.specs.Processes.{ProcessState, Guest}
use Rattle.process_rules.specs.Runs.{Moves}
use Rattle.record_replay.specs.declared.fault.SourceFault.{SourceFault}
use Rattle.record_replay.specs.rules.Calls.{Giving, Taking, Ask, Exchange, Asks, Tells, Exchanges}
use Rattle.record_replay.specs.rules.Calls.{last_refused, Ports}
use Rattle.machine.specs.rules.Acceptance.{IsReported, HasNoAcceptedModule, is_want}
use Rattle.process.specs.rules.Values.{ShowsProcess}
use Rattle.process.specs.rules.Stops.{CallsHost, IsBeyond}
use Rattle.record_replay.specs.declared.slices.fault.SliceFault.{SliceFault}
use Rattle.record_replay.specs.declared.slices.fault.SliceFault.TheVariants as fault
use Rattle.record_replay.specs.declared.slices.fault.Refusal.TheVariants as refusal
use Rattle.record_replay.specs.rules.Workers.{WorkerValue}
use Rattle.record_replay.specs.rules.Slices.{SliceLeadsTo, AreAnswered, AreWanted}

-- ---- a creation

-- a refusal of the module says why it isn't accepted
abbrev pub IsRefusedByWorker : ℕ → List ℕ → SliceFault → Type 0
IsRefusedByWorker pages bytes (fault.Refused (refusal.Module why)) = (is_want why ≡ false)
    × IsReported pages bytes why × HasNoAcceptedModule pages bytes
IsRefusedByWorker pages bytes (fault.Refused refusal.StepsSpent) = ⊥
IsRefusedByWorker pages bytes fault.Memory = Unit {0}
IsRefusedByWorker pages bytes _ = ⊥

-- ---- a slice

-- The source failed at the last question, or handed over what doesn't fit.
abbrev pub IsBadAnswer : ℕ → Question → Result (Option Answer) SourceFault → Type 0
IsBadAnswer limit question (Err e) = Unit {0}
IsBadAnswer limit question (Ok (Some a)) = Fits limit question a → ⊥
IsBadAnswer limit question (Ok None) = ⊥

-- the last question, and this answer to it
abbrev pub last_answer : Question → Option Answer → List Exchange
last_answer question None = []
last_answer question (Some a) = Asks (record { question = question; said = Ok (Some a) }) ∷ []

-- The calls have led to q, and each question was answered. One more answer may have been handed
-- over, which q has not taken.
pub record LeadsUpTo (guest : Guest) (p : ProcessState) (exchanges : List Exchange) (n : ℕ)
    (q : ProcessState) (given : Option Answer) : Type 0 where
  pub front : List Exchange
  pub question : Question
  pub is : exchanges ≡ front ++ last_answer question given
  pub leads : SliceLeadsTo guest p front n q
  pub answered : AreAnswered front

-- The last step, which may have taken the last answer, emitted these lines. All lines before them
-- were released.
pub record EmitsLast (guest : Guest) (p : ProcessState) (exchanges : List Exchange) (n : ℕ)
    (q : ProcessState) (lines : List Line) : Type 0 where
  pub before : ProcessState
  pub given : Option Answer
  pub steps : ℕ
  pub counted : n ≡ suc steps
  pub leads : LeadsUpTo guest p exchanges steps before given
  pub moves : Moves guest before given q
  pub emitted : q.host.lines ≡ before.host.lines ++ lines

-- of the lines that the last step emitted some were released, and the next one was refused
pub record StopsAtLine (guest : Guest) (p : ProcessState) (exchanges : List Exchange) (n : ℕ)
    (q : ProcessState) : Type 0 where
  pub front : List Exchange
  pub told : List Line
  pub line : Line
  pub others : List Line
  pub last : EmitsLast guest p front n q (told ++ (line ∷ others))
  pub is : exchanges ≡ front
      ++ map Tells (last_refused (suc (length last.before.host.lines)) told line)

-- the source failed at the last question, to which the calls before it led, or handed over what
-- doesn't fit
pub record StopsAtAnswer (guest : Guest) (p : ProcessState) (exchanges : List Exchange) (n : ℕ)
    (q : ProcessState) : Type 0 where
  pub front : List Exchange
  pub ask : Ask
  pub is : exchanges ≡ front ++ (Asks ask ∷ [])
  pub leads : SliceLeadsTo guest p front n q
  pub bad : IsBadAnswer (text_limit q.host.version) ask.question ask.said

module _ {S O : Type 0} (gives : Giving S) (takes : Taking O) where
  -- The process that the worker showed has gone on to one that it then shows, up to what failed.
  pub record Fails (old new : WorkerValue) (guest : Guest) (p : ProcessState)
      (before after : Ports S O) : Type 0 where
    pub exchanges : List Exchange
    pub exchanged : Exchanges gives takes before.source before.outlet exchanges after.source
        after.outlet
    pub wanted : AreWanted guest p exchanges
    pub steps : ℕ
    pub process : ProcessState
    pub shows : ShowsProcess new.process guest process

-- What failed: the source; the outlet; an allocation for the call that is the next step; or the
-- next step can't be counted. A next step is one that some fuel is left for.
abbrev pub IsCause : Guest → ProcessState → ℕ → List Exchange → ℕ → ProcessState → SliceFault
    → Type 0
IsCause guest p fuel exchanges steps q fault.Source =
    (steps < fuel) × StopsAtAnswer guest p exchanges steps q
IsCause guest p fuel exchanges steps q fault.Outlet =
    (steps ≤ fuel) × StopsAtLine guest p exchanges steps q
IsCause guest p fuel exchanges steps q fault.Memory =
    (steps < fuel) × (q.ended ≡ None) × CallsHost guest q × (given : Option Answer)
    × LeadsUpTo guest p exchanges steps q given
IsCause guest p fuel exchanges steps q (fault.Refused refusal.StepsSpent) =
    (steps < fuel) × (q.ended ≡ None) × (given : Option Answer)
    × LeadsUpTo guest p exchanges steps q given × IsBeyond guest q given
IsCause guest p fuel exchanges steps q (fault.Refused (refusal.Module why)) = ⊥
IsCause guest p fuel exchanges steps q fault.Failed = ⊥

-- A worker that had failed does nothing. One that fails has failed from then on; whichever process
-- it showed.
abbrev pub SlicesInVain : {S O : Type 0} → Giving S → Taking O → WorkerValue → ℕ → SliceFault
    → WorkerValue → Ports S O → Ports S O → Type 0
SlicesInVain gives takes old fuel fault.Failed new before after =
    (old.failed ≡ true) × (new ≡ old) × (after ≡ before)
SlicesInVain gives takes old fuel why new before after =
    (old.failed ≡ false) × (new.failed ≡ true)
    × ((guest : Guest) (p : ProcessState) → ShowsProcess old.process guest p
    → (fails : Fails gives takes old new guest p before after)
    × IsCause guest p fuel fails.exchanges fails.steps fails.process why)
