-- What a call of the guest comes to.
use Rattle.std.specs.Prelude.{◌≡◌, ◌≢◌, ℕ, ◌↔◌, IsTrue, Bool, List, Option, Some, None, Result, Ok}
use Rattle.std.specs.Prelude.{Err, slice_get}
use Rattle.std.specs.Option.{option_map}
use Rattle.std.specs.List.{AllByRecursion}
use Rattle.wasm_syntax.specs.declared.types.FunctionType.{FunctionType}
use Rattle.wasm_syntax.specs.declared.value.Value.{Value}
use Rattle.guest_memory.specs.rules.Bytes.{IsByte}
use Rattle.wasm_rules.specs.Types.{AreOf, gives_of}
use Rattle.wasm_rules.specs.Configuration.{Imported, Program, Thread, Configuration, Asks}
use Rattle.wasm_rules.specs.Steps.{counted_step, answered, IsEnded, ReducesTo}
use Rattle.wasi_abi.specs.declared.answer.Answer.{Answer}
use Rattle.wasi_abi.specs.declared.call.Call.{Call}
use Rattle.wasi_calls_rules.specs.WasiStates.{WasiState}
use Rattle.wasi_calls_rules.specs.Checks.{Done, Halt}
use Rattle.wasi_calls_rules.specs.Lines.{lines_ended}
use Rattle.wasi_calls_rules.specs.CallRules.{call_rule}
use Rattle.wasi_calls.specs.declared.outcome.CallOutcome.{CallOutcome}
use Rattle.wasi_calls.specs.declared.outcome.CallOutcome.TheVariants as outcome
use Rattle.wasi_calls.specs.rules.Held.{HeldWasiState, ShowsWasiState, held_ended}
use Rattle.wasi_calls.specs.rules.Calls.{ending_of_call, ShowsCallRule, EndsNothing, IsAsLarge}
use Rattle.machine.specs.rules.Answers.{call_results}
use Rattle.machine.specs.rules.Values.{MachineValue, ShowsIn, memory_of, with_memory}
use Rattle.process_rules.specs.Processes.{Ending, ProcessState, Guest, HasLineNumbers}
use Rattle.process_rules.specs.Runs.{Wants, next_of, LeadsTo, IsWanted}
use Rattle.process_rules.specs.Behind.{Syncs}
use Rattle.process.specs.declared.calling.Called.{Called}
use Rattle.process.specs.declared.calling.Called.TheVariants as called
use Rattle.process.specs.declared.fault.ProcessFault.{ProcessFault}
use Rattle.process.specs.declared.fault.ProcessFault.TheVariants as fault
use Rattle.process.specs.declared.stop.ProcessEnd.{ProcessEnd}
use Rattle.process.specs.declared.stop.ProcessEnd.TheVariants as end
use Rattle.process.specs.rules.Values.{ending_of}
use Rattle.process.specs.Parts.{ShowsParts, IsAtCall}
use Rattle.process.specs.rules.Stops.{EndsNot, CallsHost, LacksNumbers}

-- it leads to a process that is then shown, and has ended so
pub record LeadsToProcess (machine : MachineValue) (held : HeldWasiState) (guest : Guest)
    (p : ProcessState) (given : Option Answer) (how : Option Ending) : Type 0 where
  pub process : ProcessState
  pub leads : LeadsTo guest (next_of guest p given) given p process
  pub shows : ShowsParts machine held guest process
  pub ended : process.ended ≡ how

-- without an answer from outside, it says whether the step is a sync of the guest
abbrev pub Tells : Bool → Guest → ProcessState → Option Answer → Type 0
Tells synced guest p given = given ≡ None → (IsTrue synced ↔ Syncs guest p)

-- It is performed. Or it wants an answer, there is no memory for it, or its lines can't be
-- numbered: then nothing changes.
abbrev pub CallsFor : MachineValue → HeldWasiState → MachineValue → HeldWasiState → Guest
    → ProcessState → Option Answer → Result Called ProcessFault → Type 0
CallsFor old old_held new held guest p given (Ok (called.Performed synced ended)) =
    LeadsToProcess new held guest p given (option_map ending_of ended) × Tells synced guest p given
CallsFor old old_held new held guest p given (Ok (called.Asks question)) =
    (new ≡ old) × (held ≡ old_held) × (next_of guest p given ≡ Wants question)
CallsFor old old_held new held guest p given (Err fault.Memory) = (new ≡ old) × (held ≡ old_held)
    × EndsNot guest p
CallsFor old old_held new held guest p given (Err fault.StepsSpent) =
    (new ≡ old) × (held ≡ old_held) × LacksNumbers (next_of guest p given)
CallsFor old old_held new held guest p given (Err fault.WrongAnswer) = ⊥

-- whichever process was shown that is at this call
abbrev pub PerformsCall : MachineValue → HeldWasiState → Call → List ℕ → Option Answer
    → Result Called ProcessFault → MachineValue → HeldWasiState → Type 0
PerformsCall old old_held call arguments given result new held =
    (guest : Guest) (p : ProcessState) → ShowsParts old old_held guest p → p.ended ≡ None
    → IsAtCall guest p.configuration call arguments
    → CallsFor old old_held new held guest p given result

-- ---- the steps of a call

-- If the call is done, the lines that there are by then can be numbered.
abbrev pub HasNumbers : MachineValue → HeldWasiState → Call → List ℕ → Type 0
HasNumbers machine held call arguments =
    (given : Option Answer) (h : WasiState) (done : Done) → ShowsWasiState held h
    → call_rule call arguments given machine.state.memory h ≡ Ok done → HasLineNumbers done.host

-- The call is done, and they can't.
pub record HasNoNumbers (machine : MachineValue) (held : HeldWasiState) (call : Call)
    (arguments : List ℕ) : Type 0 where
  pub done : (given : Option Answer) (h : WasiState) (done : Done) → ShowsWasiState held h
      → call_rule call arguments given machine.state.memory h ≡ Ok done
      → HasLineNumbers done.host → ⊥
  pub not_stopped : (given : Option Answer) (h : WasiState) (halt : Halt) → ShowsWasiState held h
      → call_rule call arguments given machine.state.memory h ≢ Err halt

-- The host has performed the call, on the memory that the machine holds. All else of the machine is
-- as it was.
pub record HasCalled (old : MachineValue) (old_held : HeldWasiState) (call : Call)
    (arguments : List ℕ) (given : Option Answer) (o : CallOutcome) (new : MachineValue)
    (held : HeldWasiState) : Type 0 where
  pub is : new ≡ with_memory old (memory_of new)
  pub large : IsAsLarge (memory_of old) (memory_of new)
  pub bytes : AllByRecursion IsByte new.state.memory
  pub released : held.released ≡ old_held.released
  pub shown : (h : WasiState) → ShowsWasiState old_held h
      → ShowsCallRule (ending_of_call o) new.state.memory held old.state.memory old_held
      (call_rule call arguments given old.state.memory h)
  pub wants : o ≡ outcome.Memory → EndsNothing call arguments

-- the program has come to its end, and the host has emitted what it had not finished; or neither
abbrev pub EndsAt : Configuration → HeldWasiState → WasiState → Option ProcessEnd → Type 0
EndsAt e held h None = (IsEnded e → ⊥) × ShowsWasiState held h
EndsAt e held h (Some how) = IsEnded e × (how ≡ end.Exited 0) × ShowsWasiState held (lines_ended h)

-- the host where it has ended the process so, or not
abbrev pub IsEndedBy : Option ProcessEnd → HeldWasiState → HeldWasiState → Type 0
IsEndedBy None old new = new ≡ old
IsEndedBy (Some how) old new = new ≡ held_ended old

-- what the call gives is reduced to a configuration that is then shown
pub record FinishesAt (new : MachineValue) (held : HeldWasiState) (program : Program)
    (given : Configuration) (h : WasiState) (ended : Option ProcessEnd) : Type 0 where
  pub configuration : Configuration
  pub reduces : ReducesTo program given configuration
  pub shows : ShowsIn new program configuration
  pub ends : EndsAt configuration held h ended

-- whichever configuration was shown that waits at such a call of the host
abbrev pub HasFinished : MachineValue → HeldWasiState → ℕ → Option ProcessEnd → MachineValue
    → HeldWasiState → Type 0
HasFinished old old_held number ended new held =
    (program : Program) (d : Configuration) (f : ℕ) (operands : List Value) (waits : Thread)
    (signature : FunctionType) (h : WasiState)
    → ShowsIn old program d → counted_step program d ≡ Asks f operands waits
    → slice_get program.functions f ≡ Some (Imported signature)
    → AreOf (gives_of signature) (call_results (Some number)) → ShowsWasiState old_held h
    → FinishesAt new held program (answered d old.state.memory (call_results (Some number)) waits) h
    ended

-- ---- answers

-- The answer is the one that is wanted, and the call is performed with it. Or it isn't, there is no
-- memory for the call, or its lines can't be numbered: then nothing changes.
abbrev pub AnswersFor : MachineValue → HeldWasiState → MachineValue → HeldWasiState → Guest
    → ProcessState → Answer → Result (Option ProcessEnd) ProcessFault → Type 0
AnswersFor old old_held new held guest p answer (Ok ended) =
    IsWanted guest p (Some answer)
    × LeadsToProcess new held guest p (Some answer) (option_map ending_of ended)
AnswersFor old old_held new held guest p answer (Err fault.WrongAnswer) =
    (new ≡ old) × (held ≡ old_held) × (IsWanted guest p (Some answer) → ⊥)
AnswersFor old old_held new held guest p answer (Err fault.Memory) =
    (new ≡ old) × (held ≡ old_held) × CallsHost guest p
AnswersFor old old_held new held guest p answer (Err fault.StepsSpent) =
    (new ≡ old) × (held ≡ old_held) × LacksNumbers (next_of guest p (Some answer))

-- whichever process was shown that has not ended
abbrev pub AnswersCall : MachineValue → HeldWasiState → Answer
    → Result (Option ProcessEnd) ProcessFault → MachineValue → HeldWasiState → Type 0
AnswersCall old old_held answer result new held =
    (guest : Guest) (p : ProcessState) → ShowsParts old old_held guest p → p.ended ≡ None
    → AnswersFor old old_held new held guest p answer result
