-- The answers behind a line and behind a guest sync (this project's own). Demands are stated by
-- covering: so many answers are enough for a line to be emitted, or for a sync to be made.
use Rattle.std.specs.Prelude.{◌≡◌, ℕ, ◌+◌, ◌≤◌, List, ◌∷◌, length, take, drop, Some, None, Ok}
use Rattle.std.specs.Prelude.{slice_get, reverse, map}
use Rattle.wasm_syntax.specs.declared.value.Value.{Value}
use Rattle.wasm_syntax.specs.declared.module.Module.{Module}
use Rattle.wasm_rules.specs.Types.{number_in}
use Rattle.wasm_rules.specs.Configuration.{Thread, Asks}
use Rattle.wasm_rules.specs.Steps.{counted_step}
use Rattle.wasi_abi.specs.declared.call.Call.{Call}
use Rattle.wasi_abi.specs.rules.Configs.{Settings}
use Rattle.wasi_calls_rules.specs.WasiStates.{Line}
use Rattle.wasi_calls_rules.specs.Checks.{Done}
use Rattle.wasi_calls_rules.specs.CallRules.{call_rule, IsSync}
use Rattle.process_rules.specs.Processes.{ProcessState, Guest}
use Rattle.process_rules.specs.Runs.{Kept, Wider, Succeeds, Reaches}

-- If what is kept next widens the process, then after so many steps at least. Before it goes on
-- from another one it takes no step.
abbrev pub IsNarrowTo : List Kept → ℕ → Type 0
IsNarrowTo (Wider steps ∷ kept) step = step ≤ steps
IsNarrowTo (Succeeds o ∷ kept) step = step ≤ 0
IsNarrowTo _ step = Unit {0}

-- the first a of the kept answers, exactly, lead to a process that has emitted line i, counted from
-- 1
pub record AnswersBehindLine (m : Module) (config : Settings) (kept : List Kept)
    (i a : ℕ) : Type 0 where
  pub within : a ≤ length kept
  pub steps : ℕ
  pub process : ProcessState
  pub reached : Reaches m config (take a kept) steps process
  pub up_to : IsNarrowTo (drop a kept) steps
  pub emitted : i ≤ length process.host.lines

-- line i, counted from 1, of what a prefix of the kept answers leads to
pub record IsLine (m : Module) (config : Settings) (kept : List Kept) (i : ℕ)
    (line : Line) : Type 0 where
  pub answers : ℕ
  pub steps : ℕ
  pub process : ProcessState
  pub reached : Reaches m config (take answers kept) steps process
  pub up_to : IsNarrowTo (drop answers kept) steps
  pub place : ℕ
  pub counted : i ≡ place + 1
  pub is : slice_get process.host.lines place ≡ Some line

-- the process is about to make a guest sync that answers 0
pub record Syncs (guest : Guest) (p : ProcessState) : Type 0 where
  pub function : ℕ
  pub arguments : List Value
  pub waits : Thread
  pub call : Call
  pub done : Done
  pub running : p.ended ≡ None
  pub asks : counted_step guest.program p.configuration ≡ Asks function arguments waits
  pub is_call : slice_get guest.calls function ≡ Some call
  pub is_sync : IsSync call
  pub answers_zero : call_rule call (reverse (map number_in arguments)) None
      p.configuration.store.memory p.host ≡ Ok done

-- the first a of the kept answers, exactly, lead to the guest sync that is step k
pub record AnswersBehindSync (m : Module) (config : Settings) (kept : List Kept)
    (k a : ℕ) : Type 0 where
  pub within : a ≤ length kept
  pub before : ℕ
  pub process : ProcessState
  pub reached : Reaches m config (take a kept) before process
  pub up_to : IsNarrowTo (drop a kept) k
  pub next : k ≡ before + 1
  pub syncs : Syncs reached.guest process
