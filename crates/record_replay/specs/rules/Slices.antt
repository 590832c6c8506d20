-- What a slice does with a process, a source of answers and an outlet of lines.
use Rattle.std.specs.Prelude.{◌≡◌, ℕ, suc, ◌<◌, ◌≤◌, false, List, [], ◌∷◌, ◌++◌, length, Option}
use Rattle.std.specs.Prelude.{Some, None, Result, Ok, Err}
use Rattle.std.specs.List.{AllByRecursion}
use Rattle.wasi_abi.specs.declared.answer.Question.{Question}
use Rattle.wasi_abi.specs.declared.answer.Answer.{Answer}
use Rattle.wasi_calls_rules.specs.WasiStates.{Line}
use Rattle.process_rules.specs.Processes.{ProcessState, Guest}
use Rattle.process_rules.specs.Runs.{Wants, next_of, Kept, Given, Runs}
use Rattle.record_replay.specs.declared.fault.SourceFault.{SourceFault}
use Rattle.record_replay.specs.rules.Calls.{Giving, Taking, Ask, Exchange, Asks, Exchanges, asks_of}
use Rattle.record_replay.specs.rules.Calls.{releases_of, all_taken, Ports}
use Rattle.process.specs.rules.Values.{ShowsProcess, ending_of, waiting_in}
use Rattle.record_replay.specs.declared.slices.now.Now.{Now}
use Rattle.record_replay.specs.declared.slices.now.Now.TheVariants as now
use Rattle.record_replay.specs.rules.Workers.{WorkerValue}

-- ---- what the calls have led to

-- what a source's word adds to the answers: one, or none
abbrev pub handed_by : Result (Option Answer) SourceFault → List Kept
handed_by (Ok (Some a)) = Given a ∷ []
handed_by (Ok None) = []
handed_by (Err e) = []

-- the answers that a source handed over, in order
abbrev pub handed : List Ask → List Kept
handed [] = []
handed (ask ∷ asks) = handed_by ask.said ++ handed asks

-- From p, the answers that were handed over lead to q in so many steps. All lines emitted on the
-- way were released, each once, in their order, with their numbers, and the outlet took them.
pub record SliceLeadsTo (guest : Guest) (p : ProcessState) (exchanges : List Exchange) (n : ℕ)
    (q : ProcessState) : Type 0 where
  pub runs : Runs guest p (handed (asks_of exchanges)) n q
  pub lines : List Line
  pub emitted : q.host.lines ≡ p.host.lines ++ lines
  pub released : releases_of exchanges ≡ all_taken (suc (length p.host.lines)) lines

-- there was an answer
abbrev pub HasAnswer : Ask → Type 0
HasAnswer ask = (a : Answer) × (ask.said ≡ Ok (Some a))

-- each question was answered
pub record AreAnswered (exchanges : List Exchange) : Type 0 where
  pub all : AllByRecursion HasAnswer (asks_of exchanges)

-- they lead to a process whose next step wants this answer, and each question was answered
pub record LeadsToQuestion (guest : Guest) (p : ProcessState) (exchanges : List Exchange)
    (question : Question) : Type 0 where
  pub steps : ℕ
  pub process : ProcessState
  pub leads : SliceLeadsTo guest p exchanges steps process
  pub running : process.ended ≡ None
  pub wants : next_of guest process None ≡ Wants question
  pub answered : AreAnswered exchanges

-- Each question is what the process wants to which the calls before it lead. So only the last one
-- can be without an answer.
abbrev pub AreWanted : Guest → ProcessState → List Exchange → Type 0
AreWanted guest p exchanges =
    (front rest : List Exchange) (ask : Ask) → exchanges ≡ front ++ (Asks ask ∷ rest)
    → LeadsToQuestion guest p front ask.question

-- ---- a slice

module _ {S O : Type 0} (gives : Giving S) (takes : Taking O) where
  -- The process that the worker showed has gone on to one that it then shows. All lines that it
  -- emitted on the way were released.
  pub record Works (old new : WorkerValue) (guest : Guest) (p : ProcessState)
      (before after : Ports S O) : Type 0 where
    pub exchanges : List Exchange
    pub exchanged : Exchanges gives takes before.source before.outlet exchanges after.source
        after.outlet
    pub wanted : AreWanted guest p exchanges
    pub steps : ℕ
    pub process : ProcessState
    pub leads : SliceLeadsTo guest p exchanges steps process
    pub shows : ShowsProcess new.process guest process

-- the last question was answered by none
abbrev pub IsUnanswered : List Exchange → Question → Type 0
IsUnanswered exchanges question = (front : List Exchange)
    × (exchanges ≡ front ++ (Asks (record { question = question; said = Ok None }) ∷ []))

-- Why the slice is over: its steps are taken; an answer is wanted that isn't there yet; or the
-- process has ended. All that was asked for was answered, but for the answer that isn't there.
abbrev pub IsNow : Guest → ProcessState → List Exchange → ℕ → ℕ → Now → Type 0
IsNow guest q exchanges steps fuel now.Spent = (steps ≡ fuel) × (q.ended ≡ None)
    × AreAnswered exchanges
IsNow guest q exchanges steps fuel now.Waiting = (steps < fuel) × (q.ended ≡ None)
    × (question : Question) × (next_of guest q None ≡ Wants question)
    × IsUnanswered exchanges question
IsNow guest q exchanges steps fuel (now.Ended how) =
    (steps ≤ fuel) × (q.ended ≡ Some (ending_of how)) × AreAnswered exchanges

-- No call of the worker had failed, and none has; and no line waits. Whichever process it showed
-- has gone on to one that it now shows.
pub record Slices {S O : Type 0} (gives : Giving S) (takes : Taking O) (old : WorkerValue)
    (fuel : ℕ) (why : Now) (new : WorkerValue) (before after : Ports S O) : Type 0 where
  pub had_not_failed : old.failed ≡ false
  pub has_not_failed : new.failed ≡ false
  pub none_waits : waiting_in new.process ≡ []
  pub shown : (guest : Guest) (p : ProcessState) → ShowsProcess old.process guest p
      → (works : Works gives takes old new guest p before after)
      × IsNow guest works.process works.exchanges works.steps fuel why
