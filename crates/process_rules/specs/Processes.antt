-- A process (this project's own): a configuration, the host's side, how far it has come, and how it
-- ended.
use Rattle.std.specs.Prelude.{◌≡◌, ℕ, ◌+◌, ◌*◌, ◌<◌, ◌^◌, List, [], ◌∷◌, length, Option, Some, None}
use Rattle.wasm_syntax.specs.declared.value.Trap.{Trap}
use Rattle.wasm_syntax.specs.declared.module.Module.{Module}
use Rattle.wasm_syntax.specs.declared.module.Import.{Import}
use Rattle.wasm_syntax.specs.declared.module.ExportItem.TheVariants as export
use Rattle.wasm_rules.specs.Configuration.{Program, Configuration, Thread}
use Rattle.wasm_rules.specs.Instantiation.{Begins}
use Rattle.wasm_rules.specs.Linking.{Exports}
use Rattle.wasi_abi.specs.declared.call.Call.{Call}
use Rattle.wasi_abi.specs.rules.Configs.{Settings}
use Rattle.wasi_abi.specs.rules.Calls.{module_name, name_of}
use Rattle.file_tree.specs.declared.limits.TheConstants.{UNIT_BYTES}
use Rattle.wasi_calls_rules.specs.WasiStates.{WasiState, first_host}
use Rattle.wasi_calls_rules.specs.Lines.{lines_ended}
use Rattle.wasi_abi.specs.declared.version.Version.TheVariants.{One}
use Rattle.std.specs.Prelude.{codes}

-- how a process ended
pub data Ending : Type 0 where
  Exited : (code : ℕ) → Ending
  Trapped : (why : Trap) → Ending

-- The lines emitted so far are those of its host. `answers` counts the outside answers taken, and
-- `requests` those of them that are a request or the end of input.
pub record ProcessState : Type 0 where
  pub configuration : Configuration
  pub host : WasiState
  pub steps : ℕ
  pub answers : ℕ
  pub requests : ℕ
  pub ended : Option Ending

-- what a process executes: a program, and the call that each imported function is
pub record Guest : Type 0 where
  pub program : Program
  pub calls : List Call

-- the imports are these calls
abbrev pub AreCalls : List Import → List Call → Type 0
AreCalls [] [] = Unit {0}
AreCalls (i ∷ imports) (c ∷ calls) = (i.module_name ≡ module_name) × (i.name ≡ name_of c)
    × AreCalls imports calls
AreCalls [] (c ∷ calls) = ⊥
AreCalls (i ∷ imports) [] = ⊥

-- Lines are numbered below 2 ^ 63 - 2: those that were emitted, and those that an end would emit.
abbrev pub HasLineNumbers : WasiState → Type 0
HasLineNumbers h = length (lines_ended h).lines + 2 < 2 ^ 63

-- ---- the beginning

-- the host with which a process begins under this configuration, in version 1
abbrev pub host_of : Settings → WasiState
host_of config =
    first_host (config.files * UNIT_BYTES) One config.arguments config.environment

-- a process that has ended emits what it has not finished
abbrev pub over : Ending → ProcessState → ProcessState
over why p = record p { host = lines_ended p.host; ended = Some why }

-- one whose program has returned has ended
abbrev pub closed_at : Thread → List ℕ → ProcessState → ProcessState
closed_at [] [] p = over (Exited 0) p
closed_at thread later p = p

-- a process, which has ended if its program has returned
abbrev pub closed : ProcessState → ProcessState
closed p = closed_at p.configuration.thread p.configuration.later p

-- the process that the module begins as, under this configuration
pub record IsStart (m : Module) (config : Settings) (guest : Guest) (p : ProcessState) :
    Type 0 where
  pub entry : ℕ
  pub first : Configuration
  pub exported : Exports m.exports (codes "_start") (export.Function entry)
  pub calls : AreCalls m.imports guest.calls
  pub begins : Begins m config.pages entry guest.program first
  pub is : p ≡ closed (record {
    configuration = first;
    host = host_of config;
    steps = 0;
    answers = 0;
    requests = 0;
    ended = None;
  })
