-- Where a machine comes to on fuel.
use Rattle.std.specs.Prelude.{◌≡◌, ◌≢◌, ℕ, suc, ◌+◌, ◌<◌, List, [], map, reverse, Some, slice_get}
use Rattle.wasm_syntax.specs.declared.types.FunctionType.{FunctionType}
use Rattle.wasm_syntax.specs.declared.value.Value.{Value}
use Rattle.wasm_syntax.specs.declared.value.Trap.{Trap}
use Rattle.wasi_abi.specs.declared.call.Call.{Call}
use Rattle.wasi_abi.specs.rules.Calls.{call_type_of}
use Rattle.wasm_rules.specs.Types.{AreOf, number_in, takes_of}
use Rattle.wasm_rules.specs.Configuration.{Imported, Program, Thread, Configuration, Asks, Traps}
use Rattle.wasm_rules.specs.Steps.{counted_step, stopped, IsReduced, IsEnded}
use Rattle.machine_frame.specs.rules.Walks.{Walks}
use Rattle.machine.specs.declared.execution.code.Executable.{Executable}
use Rattle.machine.specs.declared.execution.state.State.{State}
use Rattle.machine.specs.declared.execution.pause.Pause.{Pause}
use Rattle.machine.specs.declared.execution.pause.Pause.TheVariants as pause
use Rattle.machine.specs.declared.execution.pause.Paused.{Paused}
use Rattle.machine.specs.Execution.Codes.{StateStandsFor}

-- so many counted steps of the fuel lead to a configuration that the state stands for
pub record ComesToState (code : Executable) (new : State) (functions : List FunctionType)
    (program : Program) (d : Configuration) (fuel fuel_left : ℕ) : Type 0 where
  pub configuration : Configuration
  pub steps : ℕ
  pub used : steps + fuel_left ≡ fuel
  pub walks : Walks program steps d configuration
  pub stands : StateStandsFor code new functions program configuration

-- a counted step that asks the host for this call, with arguments of its types, the first one first
pub record StepAsksFor (code : Executable) (program : Program) (d : Configuration) (call : Call)
    (arguments : List ℕ) : Type 0 where
  pub function : ℕ
  pub operands : List Value
  pub waits : Thread
  pub asks : counted_step program d ≡ Asks function operands waits
  pub is_call : slice_get code.calls.items function ≡ Some call
  pub is_imported : slice_get program.functions function ≡ Some (Imported (call_type_of call))
  pub typed : AreOf (takes_of (call_type_of call)) operands
  pub are : arguments ≡ reverse (map number_in operands)

-- The machine traps there. Then it stands for the configuration without a thread.
pub record TrapsFor (code : Executable) (new : State) (functions : List FunctionType)
    (program : Program) (d : Configuration) (fuel fuel_left : ℕ) (why : Trap) : Type 0 where
  pub configuration : Configuration
  pub steps : ℕ
  pub used : suc steps + fuel_left ≡ fuel
  pub walks : Walks program steps d configuration
  pub traps : counted_step program configuration ≡ Traps why
  pub stands : StateStandsFor code new functions program (stopped configuration)

-- Where a machine pauses: reduced without fuel; with some fuel left before a call of the host;
-- ended; or trapped.
abbrev pub PausesFor : Executable → State → List FunctionType → Program → Configuration → ℕ → ℕ
    → Pause → Type 0
PausesFor code new functions program d fuel fuel_left pause.Spent =
    (come : ComesToState code new functions program d fuel fuel_left)
    × IsReduced program come.configuration × (come.configuration.thread ≢ []) × (fuel_left ≡ 0)
PausesFor code new functions program d fuel fuel_left (pause.Host asked) =
    (come : ComesToState code new functions program d fuel fuel_left)
    × StepAsksFor code program come.configuration asked.call asked.arguments × (0 < fuel_left)
PausesFor code new functions program d fuel fuel_left pause.Returned =
    (come : ComesToState code new functions program d fuel fuel_left) × IsEnded come.configuration
PausesFor code new functions program d fuel fuel_left (pause.Trapped why) =
    TrapsFor code new functions program d fuel fuel_left why

-- whichever configuration the state stood for
abbrev pub Pauses : Executable → State → ℕ → Paused → State → Type 0
Pauses code old fuel paused new =
    (functions : List FunctionType) (program : Program) (d : Configuration)
    → StateStandsFor code old functions program d
    → PausesFor code new functions program d fuel paused.fuel_left paused.why
