-- What contracts see of a process: its machine, its host, how far it has come, and how it ended;
-- and which process of the rules that is.
use Rattle.std.specs.Prelude.{◌≡◌, ℕ, ◌+◌, ◌<◌, ◌≤◌, ◌^◌, List, [], length, Option, None}
use Rattle.std.specs.Prelude.{option_map}
use Rattle.wasm_syntax.specs.declared.module.Module.{Module}
use Rattle.wasm_rules.specs.Steps.{IsEnded}
use Rattle.wasm_rules.specs.Linking.{IsLinkable}
use Rattle.wasi_abi.specs.rules.Configs.{Settings}
use Rattle.wasi_abi.specs.rules.Versions.{widenings}
use Rattle.wasi_calls_rules.specs.WasiStates.{Line}
use Rattle.wasi_calls_rules.specs.Lines.{lines_ended}
use Rattle.wasi_calls.specs.rules.Held.{HeldWasiState, ShowsWasiState, held_released, held_widened}
use Rattle.machine.specs.rules.Offers.{offer}
use Rattle.machine.specs.rules.Values.{MachineValue, ShowsIn}
use Rattle.process_rules.specs.Processes.{Ending, Exited, Trapped, ProcessState, Guest, AreCalls}
use Rattle.process_rules.specs.Processes.{IsStart}
use Rattle.process_rules.specs.Runs.{widened}
use Rattle.process.specs.declared.stop.ProcessEnd.{ProcessEnd}
use Rattle.process.specs.declared.stop.ProcessEnd.TheVariants as end

-- how the rules name an end
abbrev pub ending_of : ProcessEnd → Ending
ending_of (end.Exited code) = Exited code
ending_of (end.Trapped why) = Trapped why

-- a process as contracts see it: machine, host, counts, and how it ended
pub record ProcessValue : Type 0 where
  pub machine : MachineValue
  pub host : HeldWasiState
  pub steps : ℕ
  pub answers : ℕ
  pub requests : ℕ
  pub ended : Option Ending

-- of its parts
abbrev pub process_of : MachineValue → HeldWasiState → ℕ → ℕ → ℕ → Option ProcessEnd → ProcessValue
process_of machine host steps answers requests ended = record {
  machine = machine;
  host = host;
  steps = steps;
  answers = answers;
  requests = requests;
  ended = option_map ending_of ended;
}

-- the lines that were emitted and not released yet
abbrev pub waiting_in : ProcessValue → List Line
waiting_in v = v.host.host.lines

-- how many lines were emitted
abbrev pub lines_in : ProcessValue → ℕ
lines_in v = v.host.released + length (waiting_in v)

-- It shows a process of the rules, all parts of it. A process whose program has come to its end has
-- ended.
pub record ShowsProcess (v : ProcessValue) (guest : Guest) (p : ProcessState) : Type 0 where
  pub calls : AreCalls v.machine.guest.imports guest.calls
  pub configuration : ShowsIn v.machine guest.program p.configuration
  pub host : ShowsWasiState v.host p.host
  pub steps : v.steps ≡ p.steps
  pub answers : v.answers ≡ p.answers
  pub requests : v.requests ≡ p.requests
  pub ended : v.ended ≡ p.ended
  pub closed : p.ended ≡ None → IsEnded p.configuration → ⊥

-- It shows some process, and its numbers can be counted. Lines are numbered below 2 ^ 63 - 2, and
-- those that its end would emit are counted among them.
pub record IsProcess (v : ProcessValue) : Type 0 where
  pub guest : Guest
  pub process : ProcessState
  pub shows : ShowsProcess v guest process
  pub few_steps : v.steps < 2 ^ 63
  pub few_answers : v.answers ≤ v.steps + widenings v.host.host.version
  pub few_requests : v.requests ≤ v.answers
  pub few_lines : v.host.released + length (lines_ended v.host.host).lines + 2 < 2 ^ 63

-- The module can be linked under this configuration. It is at the start of the module, and no line
-- waits.
pub record HasStarted («module» : Module) (config : Settings) (v : ProcessValue) : Type 0 where
  pub linkable : IsLinkable offer config.pages «module»
  pub guest : v.machine.guest ≡ «module»
  pub none_waits : waiting_in v ≡ []
  pub first_guest : Guest
  pub first : ProcessState
  pub is_first : IsStart «module» config first_guest first
  pub shows : (guest : Guest) (p : ProcessState) → IsStart «module» config guest p
      → ShowsProcess v guest p

-- the first so many lines that wait were released; it shows what it showed
pub record HasReleased (count : ℕ) (old new : ProcessValue) : Type 0 where
  pub is : new ≡ record old { host = held_released count old.host }
  pub shows : (guest : Guest) (p : ProcessState) → ShowsProcess old guest p
      → ShowsProcess new guest p

-- it was widened: that is an answer, and it shows what it showed, widened
pub record HasWidened (old new : ProcessValue) : Type 0 where
  pub is : new ≡ record old { host = held_widened old.host; answers = old.answers + 1 }
  pub shows : (guest : Guest) (p : ProcessState) → ShowsProcess old guest p
      → ShowsProcess new guest (widened p)
