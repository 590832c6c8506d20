-- Lists of calls, one after another; and records, which lead to one process.
use Rattle.std.specs.Prelude.{◌≡◌, ◌↔◌, ℕ, ◌+◌, List, [], ◌∷◌, ◌++◌, length, map}
use Rattle.wasi_calls_rules.specs.WasiStates.{Line}
use Rattle.wasi_calls_rules.specs.laws.Laws.{Emits}
use Rattle.disk_layout.specs.declared.record.Record.{Record}
use Rattle.process_rules.specs.Processes.{ProcessState, Guest}
use Rattle.process_rules.specs.Runs.{Runs}
use Rattle.record_replay.specs.rules.Records.{Recorded, given_in}
use Rattle.record_replay.specs.rules.Replays.{ReplaysUpTo, FitsNowhere}
use Rattle.record_replay.specs.rules.Calls.{Leads, Giving, Taking, Exchange, Exchanges, all_taken}

-- No call leaves the value as it is. One call leads where it leads alone. One more goes on from
-- where those before it led. A list leads where its front leads, and then its rest.
pub record AreInOrder {V C : Type 0} (step : V → C → V → Type 0) : Type 0 where
  pub none : (v w : V) → Leads step v [] w ↔ (w ≡ v)
  pub one : (v w : V) (call : C) → Leads step v (call ∷ []) w ↔ step v call w
  pub one_more : (v w : V) (calls : List C) (call : C) → Leads step v (calls ++ call ∷ []) w
      ↔ ((u : V) × Leads step v calls u × step u call w)
  pub joined : (v w : V) (front rest : List C) → Leads step v (front ++ rest) w
      ↔ ((u : V) × Leads step v front u × Leads step u rest w)

-- a list of calls of both leads where its front leads, and then its rest
abbrev pub ExchangesAreInOrder : {S O : Type 0} → Giving S → Taking O → Type 0
ExchangesAreInOrder {S} {O} gives takes = (s t : S) (o p : O) (front rest : List Exchange) →
    Exchanges gives takes s o (front ++ rest) t p
    ↔ ((u : S) × (q : O) × Exchanges gives takes s o front u q × Exchanges gives takes u q rest t p)

-- the releases of some lines are those of the first of them, and then those of the others
abbrev pub LinesAreInOrder : Type 0
LinesAreInOrder = (first : ℕ) (front rest : List Line)
    → all_taken first (front ++ rest) ≡ all_taken first front
    ++ all_taken (first + length front) rest

-- ---- records

-- what records lead to is reached on their answers, and counts its steps
pub record IsReachedOnRecords (guest : Guest) (p : ProcessState) (records : List Record)
    (q : ProcessState) : Type 0 where
  pub steps : ℕ
  pub runs : Runs guest p (map given_in records) steps q
  pub counted : q.steps ≡ p.steps + steps

abbrev pub RecordsAreRuns : Type 0
RecordsAreRuns = (guest : Guest) (p q : ProcessState) (records : List Record)
    → Recorded guest p records q → IsReachedOnRecords guest p records q

-- records lead from a process to one process at most
abbrev pub OneProcessIsRecorded : Type 0
OneProcessIsRecorded = (guest : Guest) (p q r : ProcessState) (records : List Record)
    → Recorded guest p records q → Recorded guest p records r → q ≡ r

-- the next of these records fits somewhere
abbrev pub NextFits : Guest → ProcessState → List Record → Type 0
NextFits guest p [] = Unit {0}
NextFits guest p (next ∷ others) = FitsNowhere guest p next → ⊥

-- Where records lead to a process, a replay that is refused was on the way there: the lines that it
-- has come to are the first of that process, and the next record fits.
pub record IsOnTheWay (guest : Guest) (p : ProcessState) (records : List Record)
    (last : ProcessState) (come : ReplaysUpTo guest p records) : Type 0 where
  pub first_lines : Emits come.process.host last.host
  pub fits : NextFits guest come.reached come.rest

abbrev pub RefusedReplaysAreOnTheWay : Type 0
RefusedReplaysAreOnTheWay = (guest : Guest) (p last : ProcessState) (records : List Record)
    → Recorded guest p records last → (come : ReplaysUpTo guest p records)
    → IsOnTheWay guest p records last come
