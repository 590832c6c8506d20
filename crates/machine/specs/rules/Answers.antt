-- What the host's answer makes of a state.
use Rattle.std.specs.Prelude.{◌≡◌, ℕ, List, [], ◌∷◌, Option, Some, None, slice_get}
use Rattle.wasm_syntax.specs.declared.types.FunctionType.{FunctionType}
use Rattle.wasm_syntax.specs.declared.value.Value.{Value}
use Rattle.wasm_syntax.specs.declared.value.Value.TheVariants as value
use Rattle.wasm_rules.specs.Types.{AreOf, gives_of}
use Rattle.wasm_rules.specs.Configuration.{Imported, Program, Thread, Configuration, Asks}
use Rattle.wasm_rules.specs.Steps.{counted_step, answered}
use Rattle.machine.specs.declared.execution.code.Executable.{Executable}
use Rattle.machine.specs.declared.execution.state.State.{State}
use Rattle.machine.specs.Execution.Codes.{StateStandsFor}

-- what a call of the host gives: nothing, or one i32
abbrev pub call_results : Option ℕ → List Value
call_results None = []
call_results (Some n) = value.I32 n ∷ []

-- the state stands for a configuration that waits at a call of the host, of a type that gives such
-- results
pub record IsWaiting (results : List Value) (code : Executable) (s : State) : Type 0 where
  pub functions : List FunctionType
  pub program : Program
  pub configuration : Configuration
  pub stands : StateStandsFor code s functions program configuration
  pub function : ℕ
  pub arguments : List Value
  pub waits : Thread
  pub signature : FunctionType
  pub asks : counted_step program configuration ≡ Asks function arguments waits
  pub is_imported : slice_get program.functions function ≡ Some (Imported signature)
  pub gives : AreOf (gives_of signature) results

-- Take any call of the host that gives such results, at which it waited. It stands for what the
-- answer makes of that, with the memory that it has.
abbrev pub IsAnswered : List Value → Executable → State → State → Type 0
IsAnswered results code old new =
    (functions : List FunctionType) (program : Program) (d : Configuration) (f : ℕ)
    (arguments : List Value) (waits : Thread) (signature : FunctionType)
    → StateStandsFor code old functions program d → counted_step program d ≡ Asks f arguments waits
    → slice_get program.functions f ≡ Some (Imported signature) → AreOf (gives_of signature) results
    → StateStandsFor code new functions program (answered d old.memory.bytes results waits)
