-- When a step has lines that can't be numbered.
use Rattle.std.specs.Prelude.{◌≡◌, ℕ, List, Option, Some, Ok, slice_get, reverse, map}
use Rattle.wasm_syntax.specs.declared.value.Value.{Value}
use Rattle.wasm_rules.specs.Types.{number_in}
use Rattle.wasm_rules.specs.Configuration.{Thread, Asks}
use Rattle.wasm_rules.specs.Steps.{counted_step}
use Rattle.wasi_abi.specs.declared.answer.Answer.{Answer}
use Rattle.wasi_abi.specs.declared.call.Call.{Call}
use Rattle.wasi_calls_rules.specs.WasiStates.{WasiState}
use Rattle.wasi_calls_rules.specs.Checks.{Done}
use Rattle.wasi_calls_rules.specs.Lines.{lines_ended}
use Rattle.wasi_calls_rules.specs.CallRules.{call_rule}
use Rattle.process_rules.specs.Processes.{ProcessState, Guest, HasLineNumbers}
use Rattle.process_rules.specs.Runs.{next_of}
use Rattle.process.specs.rules.Stops.{LacksNumbers}

-- the next step is a call of the host that is done, and lines can't be numbered after it
pub record LacksByCall (guest : Guest) (p : ProcessState) (given : Option Answer) : Type 0 where
  pub function : ℕ
  pub operands : List Value
  pub waits : Thread
  pub asks : counted_step guest.program p.configuration ≡ Asks function operands waits
  pub call : Call
  pub is_call : slice_get guest.calls function ≡ Some call
  pub done : Done
  pub is_done : call_rule call (reverse (map number_in operands)) given p.configuration.store.memory
      p.host
      ≡ Ok done
  pub lacks : HasLineNumbers done.host → ⊥

-- No other step lacks numbers: no counted step of the module, no end, no question and no call that
-- is refused.
abbrev pub CallsAloneLackNumbers : Type 0
CallsAloneLackNumbers = (guest : Guest) (p : ProcessState) (given : Option Answer)
    → HasLineNumbers p.host → LacksNumbers (next_of guest p given) → LacksByCall guest p given

-- an end has numbers where the process before it has
abbrev pub EndsHaveNumbers : Type 0
EndsHaveNumbers = (h : WasiState) → HasLineNumbers h → HasLineNumbers (lines_ended h)
