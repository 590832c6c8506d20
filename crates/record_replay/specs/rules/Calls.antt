-- What was done to a source and to an outlet, call by call (this project's own). No value stores a
-- history: a list of calls leads from a value before to a value after, by the relation of one call.
use Rattle.std.specs.Prelude.{◌≡◌, ℕ, ◌+◌, List, [], ◌∷◌, ◌++◌, length, Option, Result, Ok, Err}
use Rattle.wasi_abi.specs.declared.answer.Question.{Question}
use Rattle.wasi_abi.specs.declared.answer.Answer.{Answer}
use Rattle.wasi_calls_rules.specs.WasiStates.{Line}
use Rattle.record_replay.specs.declared.fault.SourceFault.{SourceFault}
use Rattle.record_replay.specs.declared.fault.OutletFault.{OutletFault}

-- These calls lead from one value to another, in order, each from where the one before it led.
abbrev pub Leads : {V C : Type 0} → (V → C → V → Type 0) → V → List C → V → Type 0
Leads step before [] after = after ≡ before
Leads {V} step before (call ∷ calls) after = (between : V) × step before call between
    × Leads step between calls after

-- ---- questions to a source

-- what a source gives: the source before, what was asked, what it said, the source after
abbrev pub Giving : Type 0 → Type 1
Giving S = S → Question → Result (Option Answer) SourceFault → S → Type 0

-- one question, with what the source said
pub record Ask : Type 0 where
  pub question : Question
  pub said : Result (Option Answer) SourceFault

-- one call of a source leads from this value to that one
abbrev pub Asked : {S : Type 0} → Giving S → S → Ask → S → Type 0
Asked gives before ask after = gives before ask.question ask.said after

-- these questions lead from one source to another
abbrev pub AnswersInOrder : {S : Type 0} → Giving S → S → List Ask → S → Type 0
AnswersInOrder gives before asks after = Leads (Asked gives) before asks after

-- ---- releases to an outlet

-- what an outlet takes: the outlet before, the line's number and the line, what it said, the outlet
-- after
abbrev pub Taking : Type 0 → Type 1
Taking O = O → ℕ → Line → Result (Unit {0}) OutletFault → O → Type 0

-- one release that was begun, with what the outlet said
pub record Begun : Type 0 where
  pub number : ℕ
  pub line : Line
  pub said : Result (Unit {0}) OutletFault

-- one call of an outlet leads from this value to that one
abbrev pub Released : {O : Type 0} → Taking O → O → Begun → O → Type 0
Released takes before begun after = takes before begun.number begun.line begun.said after

-- these releases lead from one outlet to another
abbrev pub Releases : {O : Type 0} → Taking O → O → List Begun → O → Type 0
Releases takes before releases after = Leads (Released takes) before releases after

-- releases of these lines, each once and in order, with the numbers from `first` on, to an outlet
-- that took each of them
abbrev pub all_taken : ℕ → List Line → List Begun
all_taken first [] = []
all_taken first (line ∷ lines) = record {
  number = first;
  line = line;
  said = Ok tt;
} ∷ all_taken (first + 1) lines

-- releases of these lines with the numbers from `first` on, each of which was taken, and of one
-- more, which was refused
abbrev pub last_refused : ℕ → List Line → Line → List Begun
last_refused first told line = all_taken first told
    ++ (record { number = first + length told; line = line; said = Err (record {}) } ∷ [])

-- ---- both, in one order

-- one call of a source or of an outlet
pub data Exchange : Type 0 where
  Asks : (ask : Ask) → Exchange
  Tells : (begun : Begun) → Exchange

-- the questions among them
abbrev pub asks_of : List Exchange → List Ask
asks_of [] = []
asks_of (Asks ask ∷ exchanges) = ask ∷ asks_of exchanges
asks_of (Tells begun ∷ exchanges) = asks_of exchanges

-- the releases among them
abbrev pub releases_of : List Exchange → List Begun
releases_of [] = []
releases_of (Asks ask ∷ exchanges) = releases_of exchanges
releases_of (Tells begun ∷ exchanges) = begun ∷ releases_of exchanges

-- the ports of a worker: its source and its outlet
pub record Ports (S O : Type 0) : Type 0 where
  pub source : S
  pub outlet : O

-- of these
abbrev pub ports : {S O : Type 0} → S → O → Ports S O
ports source outlet = record { source = source; outlet = outlet }

-- These calls lead from one source and one outlet to another. Neither knows of the other.
pub record Exchanges {S O : Type 0} (gives : Giving S) (takes : Taking O) (source : S) (outlet : O)
    (exchanges : List Exchange) (source' : S) (outlet' : O) : Type 0 where
  pub asked : AnswersInOrder gives source (asks_of exchanges) source'
  pub released : Releases takes outlet (releases_of exchanges) outlet'
