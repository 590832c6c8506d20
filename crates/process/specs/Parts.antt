-- What a process does, seen of its machine and its host alone.
use Rattle.std.specs.Prelude.{◌≡◌, ℕ, ◌+◌, ◌<◌, ◌^◌, List, length, map, reverse, Some, None}
use Rattle.std.specs.Prelude.{slice_get}
use Rattle.wasm_syntax.specs.declared.value.Value.{Value}
use Rattle.wasm_rules.specs.Types.{number_in}
use Rattle.wasm_rules.specs.Configuration.{Imported, Thread, Configuration, Asks}
use Rattle.wasm_rules.specs.Steps.{counted_step, IsEnded}
use Rattle.wasi_abi.specs.declared.call.Call.{Call}
use Rattle.wasi_abi.specs.rules.Calls.{call_type_of}
use Rattle.wasi_calls_rules.specs.Lines.{lines_ended}
use Rattle.wasi_calls.specs.rules.Held.{HeldWasiState, ShowsWasiState}
use Rattle.machine.specs.rules.Values.{MachineValue, ShowsIn}
use Rattle.process_rules.specs.Processes.{ProcessState, Guest, AreCalls}

-- They show the configuration and the host of this process.
pub record ShowsParts (machine : MachineValue) (held : HeldWasiState) (guest : Guest)
    (p : ProcessState) : Type 0 where
  pub calls : AreCalls machine.guest.imports guest.calls
  pub configuration : ShowsIn machine guest.program p.configuration
  pub host : ShowsWasiState held p.host
  pub closed : p.ended ≡ None → IsEnded p.configuration → ⊥

-- they show some process that has not ended
pub record IsRunning (machine : MachineValue) (held : HeldWasiState) : Type 0 where
  pub guest : Guest
  pub process : ProcessState
  pub shows : ShowsParts machine held guest process
  pub running : process.ended ≡ None

-- the lines of a host that it shows can be numbered, unfinished ones counted (`HasLineNumbers`)
abbrev pub HasFewLines : HeldWasiState → Type 0
HasFewLines held = held.released + length (lines_ended held.host).lines + 2 < 2 ^ 63

-- the counted step asks the host for this call, with these arguments, the first one first
pub record IsAtCall (guest : Guest) (d : Configuration) (call : Call) (arguments : List ℕ) :
    Type 0 where
  pub function : ℕ
  pub operands : List Value
  pub waits : Thread
  pub asks : counted_step guest.program d ≡ Asks function operands waits
  pub is_call : slice_get guest.calls function ≡ Some call
  pub is_imported : slice_get guest.program.functions function ≡ Some (Imported (call_type_of call))
  pub are : arguments ≡ reverse (map number_in operands)

-- they show some process that has not ended, and is at this call
pub record WaitsAtCall (machine : MachineValue) (held : HeldWasiState) (call : Call)
    (arguments : List ℕ) : Type 0 where
  pub guest : Guest
  pub process : ProcessState
  pub shows : ShowsParts machine held guest process
  pub running : process.ended ≡ None
  pub at : IsAtCall guest process.configuration call arguments
