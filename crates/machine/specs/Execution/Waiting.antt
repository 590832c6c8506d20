-- A call that waits for the host's answer.
use Rattle.std.specs.Prelude.{◌≡◌, ℕ, ◌≤◌, List, ◌++◌, length, reverse, Option, Some, None}
use Rattle.std.specs.Prelude.{slice_get}
use Rattle.wasm_syntax.specs.declared.types.FunctionType.{FunctionType}
use Rattle.wasm_syntax.specs.declared.value.Value.{Value}
use Rattle.wasi_abi.specs.declared.call.Call.{Call}
use Rattle.wasi_abi.specs.rules.Calls.{parameters_of}
use Rattle.wasm_rules.specs.Configuration.{Program, Thread, Configuration, Asks}
use Rattle.wasm_rules.specs.Steps.{counted_step}
use Rattle.machine_frame.specs.laws.Threads.{HasTaken}
use Rattle.machine.specs.declared.execution.code.Executable.{Executable}
use Rattle.machine.specs.declared.execution.state.State.{State}
use Rattle.machine.specs.declared.execution.pause.HostCall.{HostCall}
use Rattle.machine.specs.rules.Runs.{AsksNothing}
use Rattle.machine.specs.Execution.Codes.{StateStandsFor}
use Rattle.machine.specs.Execution.Pauses.{StepAsksFor}
use Rattle.machine.specs.Execution.Cycles.{IsAtPosition}

-- the state stands for a configuration whose counted step asks the host for this function
pub record AsksAt (code : Executable) (s : State) (functions : List FunctionType)
    (program : Program) (d : Configuration) (f : ℕ) (arguments : List Value) (waits : Thread) :
    Type 0 where
  pub stands : StateStandsFor code s functions program d
  pub asks : counted_step program d ≡ Asks f arguments waits

-- it stands for some configuration that asks for some function
pub record IsAsking (code : Executable) (s : State) : Type 0 where
  pub functions : List FunctionType
  pub program : Program
  pub configuration : Configuration
  pub function : ℕ
  pub arguments : List Value
  pub waits : Thread
  pub at : AsksAt code s functions program configuration function arguments waits

-- Whichever configuration it stands for, and whatever that asks for, the call takes so many of the
-- words.
abbrev pub TakesWords : Executable → State → ℕ → Type 0
TakesWords code s taken =
    (functions : List FunctionType) (program : Program) (d : Configuration) (f : ℕ)
    (arguments : List Value) (waits : Thread)
    → AsksAt code s functions program d f arguments waits
    → (taken ≤ length s.slots)
    × IsAtPosition code s (λ p opcodes. HasTaken (slice_get opcodes p) taken (length arguments))

-- ---- what it is

-- this call, with its arguments, the first one first, which lie below so many words
abbrev pub IsCallBelow : List ℕ → Call → ℕ → HostCall → Type 0
IsCallBelow words call above told =
    (over arguments under : List ℕ) → words ≡ over ++ (arguments ++ under) → above ≡ length over
    → length (parameters_of call) ≡ length arguments
    → told ≡ record { call = call; arguments = reverse arguments }

-- the call that the counted step asks the host for, or none where it asks for nothing
abbrev pub CodeTellsCall : Executable → Program → Configuration → Option HostCall → Type 0
CodeTellsCall code program d None = AsksNothing program d
CodeTellsCall code program d (Some told) = StepAsksFor code program d told.call told.arguments

-- whichever configuration the state stands for
abbrev pub TellsOfState : Executable → State → Option HostCall → Type 0
TellsOfState code s told =
    (functions : List FunctionType) (program : Program) (d : Configuration)
    → StateStandsFor code s functions program d → CodeTellsCall code program d told
