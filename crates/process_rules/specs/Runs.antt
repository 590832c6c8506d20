-- What a process reaches on answers from outside, in so many counted steps (this project's own).
use Rattle.std.specs.Prelude.{◌≡◌, ℕ, suc, ◌+◌, List, [], ◌∷◌, map, reverse, Option, Some, None, Ok}
use Rattle.std.specs.Prelude.{Err, slice_get}
use Rattle.wasm_syntax.specs.declared.value.Value.{Value}
use Rattle.wasm_syntax.specs.declared.value.Value.TheVariants as value
use Rattle.wasm_syntax.specs.declared.module.Module.{Module}
use Rattle.wasm_rules.specs.Types.{number_in}
use Rattle.wasm_rules.specs.Configuration.{Configuration, Thread, Outcome, Goes, Traps, Asks, Stuck}
use Rattle.wasm_rules.specs.Steps.{counted_step, answered, stopped, ReducesTo}
use Rattle.wasi_abi.specs.declared.answer.Question.{Question}
use Rattle.wasi_abi.specs.declared.answer.Answer.{Answer}
use Rattle.wasi_abi.specs.declared.answer.Answer.TheVariants as answer
use Rattle.wasi_abi.specs.declared.call.Call.{Call}
use Rattle.wasi_abi.specs.declared.call.Call.TheVariants as call
use Rattle.wasi_abi.specs.rules.Configs.{Settings}
use Rattle.wasi_abi.specs.rules.Numbers.{errno_number}
use Rattle.wasi_abi.specs.rules.Answers.{Fits}
use Rattle.wasi_abi.specs.declared.version.Version.{Version}
use Rattle.wasi_abi.specs.declared.version.Version.TheVariants.{One, Two}
use Rattle.wasi_abi.specs.rules.Versions.{text_limit}
use Rattle.wasi_calls_rules.specs.WasiStates.{WasiState}
use Rattle.wasi_calls_rules.specs.Checks.{Refuses, Ends, Asks as Inquires, Ruling}
use Rattle.wasi_calls_rules.specs.CallRules.{call_rule}
use Rattle.process_rules.specs.Processes.{Ending, Exited, Trapped, ProcessState, Guest, IsStart}
use Rattle.process_rules.specs.Processes.{over, closed}
use Rattle.process_rules.specs.Origins.{Origin, IsSucceeding, succeeding}

-- ---- one counted step

-- What a counted step leads to: a configuration that is then reduced and a host, an end, or a
-- question for an outside answer.
pub data Next : Type 0 where
  On : (configuration : Configuration) (host : WasiState) → Next
  Over : (why : Ending) (configuration : Configuration) (host : WasiState) → Next
  Wants : (question : Question) → Next
  Nowhere : Next

-- what a call gives: its error number, but for the end of the process
abbrev pub given_by : Call → ℕ → List Value
given_by call.ProcExit number = []
given_by _ number = value.I32 number ∷ []

-- where a call's rule leads: on with its result or its error, to the end, or to a question
abbrev pub after_call_rule : Call → Ruling → Configuration → WasiState → Thread → Next
after_call_rule c (Ok done) before h waits =
    On (answered before done.memory (given_by c 0) waits) done.host
after_call_rule c (Err (Refuses e)) before h waits =
    On (answered before before.store.memory (given_by c (errno_number e)) waits) h
after_call_rule c (Err (Ends code)) before h waits = Over (Exited code) (stopped before) h
after_call_rule c (Err (Inquires question)) before h waits = Wants question

-- where a call with these arguments leads; an import that is no call leads nowhere
abbrev pub after_call : Option Call → List Value → Option Answer → Configuration
    → WasiState → Thread → Next
after_call None arguments given before h waits = Nowhere
after_call (Some c) arguments given before h waits =
    after_call_rule c (call_rule c (reverse (map number_in arguments)) given
    before.store.memory h) before h waits

-- where the counted step that applies leads: on, to a trap, or to a call of the host
abbrev pub after_counted_step : Guest → Outcome → Option Answer → Configuration → WasiState → Next
after_counted_step guest (Goes next) given before h = On next h
after_counted_step guest (Traps why) given before h = Over (Trapped why) (stopped before) h
after_counted_step guest (Asks f arguments waits) given before h =
    after_call (slice_get guest.calls f) arguments given before h waits
after_counted_step guest Stuck given before h = Nowhere

-- where the next thing of a process leads, given this answer or none
abbrev pub next_of : Guest → ProcessState → Option Answer → Next
next_of guest p given =
    after_counted_step guest (counted_step guest.program p.configuration) given
    p.configuration p.host

-- ---- a step of a process

-- how many answers a step has taken
abbrev pub taken : Option Answer → ℕ
taken None = 0
taken (Some a) = 1

-- how many of them are a request or the end of input
abbrev pub request_taken : Option Answer → ℕ
request_taken (Some (answer.Request text)) = 1
request_taken (Some answer.End) = 1
request_taken _ = 0

-- the process after a step that took this answer, or none
abbrev pub stepped : Option Answer → Configuration → WasiState → ProcessState → ProcessState
stepped given c h p = record {
  configuration = c;
  host = h;
  steps = p.steps + 1;
  answers = p.answers + taken given;
  requests = p.requests + request_taken given;
  ended = None;
}

-- where the next thing leads, the administrative steps included
abbrev pub LeadsTo : Guest → Next → Option Answer → ProcessState → ProcessState → Type 0
LeadsTo guest (On c h) given p q = (reduced : Configuration) × ReducesTo guest.program c reduced
    × (q ≡ closed (stepped given reduced h p))
LeadsTo guest (Over why c h) given p q = q ≡ over why (stepped given c h p)
LeadsTo guest (Wants question) given p q = ⊥
LeadsTo guest Nowhere given p q = ⊥

-- The answer that a step takes is one that it wants: none where it goes on without, else one that
-- fits.
abbrev pub IsWanted : Guest → ProcessState → Option Answer → Type 0
IsWanted guest p None = Unit {0}
IsWanted guest p (Some a) = (question : Question) × (next_of guest p None ≡ Wants question)
    × Fits (text_limit p.host.version) question a

-- One counted step, with the steps that reduce it. A process that has ended takes none.
pub record Moves (guest : Guest) (p : ProcessState) (given : Option Answer) (q : ProcessState) :
    Type 0 where
  pub running : p.ended ≡ None
  pub wanted : IsWanted guest p given
  pub leads : LeadsTo guest (next_of guest p given) given p q

-- ---- runs

-- What is kept of the outside: its answers, that the process was widened after so many steps, and
-- what it goes on from, if it succeeds another.
pub data Kept : Type 0 where
  Given : Answer → Kept
  Wider : (steps : ℕ) → Kept
  Succeeds : Origin → Kept

-- The same process in version 2. That it was widened counts among the answers that it has taken.
abbrev pub widened : ProcessState → ProcessState
widened p = record p { host = record p.host { version = Two }; answers = p.answers + 1 }

-- A process of version 1 that has taken so many steps is widened. One that has ended may be.
pub record IsWidening (p : ProcessState) (steps : ℕ) : Type 0 where
  pub narrow : p.host.version ≡ One
  pub at : steps ≡ p.steps

-- So many counted steps, which took exactly these answers, in order. A widening is no step. A
-- process that goes on from another, before its first step, has the steps of that one.
pub data Runs (guest : Guest) : ProcessState → List Kept → ℕ → ProcessState → Type 0 where
  none : {p : ProcessState} → Runs guest p [] 0 p
  step : {p q r : ProcessState} {kept : List Kept} {n : ℕ} → Moves guest p None q
      → Runs guest q kept n r → Runs guest p kept (suc n) r
  take : {p q r : ProcessState} {a : Answer} {kept : List Kept} {n : ℕ} → Moves guest p (Some a) q
      → Runs guest q kept n r → Runs guest p (Given a ∷ kept) (suc n) r
  widen : {p r : ProcessState} {steps : ℕ} {kept : List Kept} {n : ℕ} → IsWidening p steps
      → Runs guest (widened p) kept n r → Runs guest p (Wider steps ∷ kept) n r
  succeed : {p r : ProcessState} {o : Origin} {kept : List Kept} {n k : ℕ} → IsSucceeding o p
      → n ≡ o.steps + k → Runs guest (succeeding o p) kept k r
      → Runs guest p (Succeeds o ∷ kept) n r

-- the version of what these lead to
abbrev pub version_after : List Kept → Version
version_after [] = One
version_after (Given a ∷ kept) = version_after kept
version_after (Wider steps ∷ kept) = Two
version_after (Succeeds o ∷ kept) = version_after kept

-- what is kept before the first answer of a process of this version that succeeds another
abbrev pub first_kept : Version → Origin → List Kept
first_kept One o = Succeeds o ∷ []
first_kept Two o = Succeeds o ∷ Wider o.steps ∷ []

-- How many answers these are. A widening counts as one, and those of the process before too.
abbrev pub answers_in : List Kept → ℕ
answers_in [] = 0
answers_in (Succeeds o ∷ kept) = o.answers + answers_in kept
answers_in (x ∷ kept) = 1 + answers_in kept

-- The module under a configuration reaches this process on these answers, all of them, in n counted
-- steps.
pub record Reaches (m : Module) (config : Settings) (kept : List Kept) (n : ℕ) (p : ProcessState) :
    Type 0 where
  pub guest : Guest
  pub start : ProcessState
  pub begins : IsStart m config guest start
  pub runs : Runs guest start kept n p
