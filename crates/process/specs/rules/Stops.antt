-- Where a process comes to, and why it stops there.
use Rattle.std.specs.Prelude.{◌≡◌, ◌≢◌, ◌⊎◌, ℕ, suc, ◌<◌, ◌≤◌, ◌^◌, [], Bool, true, false, ◌&&◌}
use Rattle.std.specs.Prelude.{if◌then◌else◌, List, Option, Some, None, Result, Ok, Err}
use Rattle.wasm_syntax.specs.declared.value.Value.{Value}
use Rattle.wasm_rules.specs.Configuration.{Configuration, Thread, Asks}
use Rattle.wasm_rules.specs.Steps.{counted_step}
use Rattle.wasi_abi.specs.declared.answer.Answer.{Answer}
use Rattle.wasi_calls_rules.specs.WasiStates.{WasiState}
use Rattle.process_rules.specs.Processes.{Ending, ProcessState, Guest, HasLineNumbers}
use Rattle.process_rules.specs.Runs.{Next, On, Over, Wants, next_of, Moves, IsWanted}
use Rattle.process_rules.specs.Owing.{IsOwing, RunsQuietly}
use Rattle.process.specs.declared.stop.Stop.{Stop}
use Rattle.process.specs.declared.stop.Stop.TheVariants as stop
use Rattle.process.specs.declared.fault.ProcessFault.{ProcessFault}
use Rattle.process.specs.declared.fault.ProcessFault.TheVariants as fault
use Rattle.process.specs.rules.Values.{ProcessValue, ShowsProcess, ending_of, waiting_in}

-- ---- running

-- so many steps, after none of which anything is owed, lead to a process that is then shown, and no
-- line waits
pub record ComesQuietly (new : ProcessValue) (guest : Guest) (p : ProcessState) : Type 0 where
  pub steps : ℕ
  pub process : ProcessState
  pub runs : RunsQuietly guest p steps process
  pub shows : ShowsProcess new guest process
  pub none_waits : waiting_in new ≡ []

-- after such steps one more, after which something is owed
pub record ComesOwing (new : ProcessValue) (guest : Guest) (p : ProcessState) : Type 0 where
  pub steps : ℕ
  pub before : ProcessState
  pub process : ProcessState
  pub runs : RunsQuietly guest p steps before
  pub moves : Moves guest before None process
  pub owing : IsOwing guest before process
  pub shows : ShowsProcess new guest process

-- Why a process stops that was given so much fuel. A line waited before, and nothing was done. Or
-- the last step is the first one after which something is owed. Or it has ended, or the fuel is
-- spent. Or some is left, and the next step wants an answer.
abbrev pub StopsFor : ProcessValue → ProcessValue → Guest → ProcessState → ℕ → Stop → Type 0
StopsFor old new guest p fuel stop.Owes =
    ((waiting_in old ≢ []) × (new ≡ old)) ⊎ ((waiting_in old ≡ []) × (come : ComesOwing new guest p)
    × (come.steps < fuel))
StopsFor old new guest p fuel (stop.Ended how) =
    (waiting_in old ≡ []) × (come : ComesQuietly new guest p) × (come.steps ≤ fuel)
    × (come.process.ended ≡ Some (ending_of how))
StopsFor old new guest p fuel stop.Spent =
    (waiting_in old ≡ []) × (come : ComesQuietly new guest p) × (come.steps ≡ fuel)
    × (come.process.ended ≡ None)
StopsFor old new guest p fuel (stop.Asks question) =
    (waiting_in old ≡ []) × (come : ComesQuietly new guest p) × (come.steps < fuel)
    × (come.process.ended ≡ None)
    × (next_of guest come.process None ≡ Wants question)

-- the next step doesn't end the process, whatever answer it is given
abbrev pub EndsNot : Guest → ProcessState → Type 0
EndsNot guest p = (given : Option Answer) (why : Ending) (d : Configuration) (h : WasiState)
    → next_of guest p given ≢ Over why d h

-- the next step is a call of the host, and not one that ends the process
pub record CallsHost (guest : Guest) (p : ProcessState) : Type 0 where
  pub function : ℕ
  pub operands : List Value
  pub waits : Thread
  pub asks : counted_step guest.program p.configuration ≡ Asks function operands waits
  pub ends_not : EndsNot guest p

-- It goes on, with more lines than can be numbered, unfinished ones counted. An end adds no line to
-- these, and a question none at all.
abbrev pub LacksNumbers : Next → Type 0
LacksNumbers (On configuration host) = HasLineNumbers host → ⊥
LacksNumbers _ = ⊥

-- the next step would be one too many to be counted, or the lines that there are by then too many
abbrev pub IsBeyond : Guest → ProcessState → Option Answer → Type 0
IsBeyond guest p given = (suc p.steps ≡ 2 ^ 63) ⊎ LacksNumbers (next_of guest p given)

-- Why it can't go on: there is no memory for the call that is the next step, or that step can't be
-- counted. It is as it was before it.
abbrev pub FailsFor : ProcessValue → ProcessValue → Guest → ProcessState → ℕ → ProcessFault → Type 0
FailsFor old new guest p fuel fault.Memory =
    (waiting_in old ≡ []) × (come : ComesQuietly new guest p) × (come.steps < fuel)
    × (come.process.ended ≡ None) × CallsHost guest come.process
FailsFor old new guest p fuel fault.StepsSpent =
    (waiting_in old ≡ []) × (come : ComesQuietly new guest p) × (come.steps < fuel)
    × (come.process.ended ≡ None) × IsBeyond guest come.process None
FailsFor old new guest p fuel fault.WrongAnswer = ⊥

-- why a call ends: by a stop, or by a fault
abbrev pub EndsFor : ProcessValue → ProcessValue → Guest → ProcessState → ℕ
    → Result Stop ProcessFault → Type 0
EndsFor old new guest p fuel (Ok stop) = StopsFor old new guest p fuel stop
EndsFor old new guest p fuel (Err fault) = FailsFor old new guest p fuel fault

-- whichever process it showed
abbrev pub AdvancesProcess : ProcessValue → ℕ → Result Stop ProcessFault → ProcessValue → Type 0
AdvancesProcess old fuel result new = (guest : Guest) (p : ProcessState) → ShowsProcess old guest p
    → EndsFor old new guest p fuel result

-- ---- the numbers that remain

-- the fuel is spent
abbrev pub is_spent : Result Stop ProcessFault → Bool
is_spent (Ok stop.Spent) = true
is_spent _ = false

-- what is told of a stop, where the fuel was cut to the steps that can be counted, or not
abbrev pub told : Result Stop ProcessFault → Bool → Result Stop ProcessFault
told stop is_cut = if is_spent stop && is_cut then Err fault.StepsSpent else stop

-- ---- answers

-- the step that takes an answer leads to a process that is then shown
pub record TakesAnswer (new : ProcessValue) (guest : Guest) (p : ProcessState) (answer : Answer) :
    Type 0 where
  pub process : ProcessState
  pub moves : Moves guest p (Some answer) process
  pub shows : ShowsProcess new guest process

-- The answer is taken, where no line waits. Or it isn't what is wanted, there is no memory for the
-- step, or that can't be counted, and nothing changes. While a line waits, and once the process has
-- ended, none is wanted.
abbrev pub GivesFor : ProcessValue → ProcessValue → Guest → ProcessState → Answer
    → Result (Unit {0}) ProcessFault → Type 0
GivesFor old new guest p answer (Ok done) = (waiting_in old ≡ []) × TakesAnswer new guest p answer
GivesFor old new guest p answer (Err fault.WrongAnswer) = (new ≡ old) × (waiting_in old ≡ []
    → p.ended ≡ None → IsWanted guest p (Some answer) → ⊥)
GivesFor old new guest p answer (Err fault.Memory) = (new ≡ old) × (waiting_in old ≡ [])
    × (p.ended ≡ None) × CallsHost guest p
GivesFor old new guest p answer (Err fault.StepsSpent) = (new ≡ old) × (waiting_in old ≡ [])
    × (p.ended ≡ None) × IsBeyond guest p (Some answer)

-- whichever process it showed
abbrev pub GivesAnswer : ProcessValue → Answer → Result (Unit {0}) ProcessFault → ProcessValue
    → Type 0
GivesAnswer old answer result new = (guest : Guest) (p : ProcessState) → ShowsProcess old guest p
    → GivesFor old new guest p answer result
