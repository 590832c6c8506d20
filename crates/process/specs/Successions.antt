-- A process at its start that goes on from what another one has left, seen of its parts.
use Rattle.std.specs.Prelude.{ℕ, ◌*◌, ◌+◌, ◌≤◌}
use Rattle.wasm_syntax.specs.declared.module.Module.{Module}
use Rattle.wasi_abi.specs.declared.version.Version.{Version}
use Rattle.wasi_abi.specs.declared.version.Version.TheVariants.{One, Two}
use Rattle.wasi_abi.specs.rules.Configs.{Settings}
use Rattle.file_tree.specs.declared.limits.TheConstants.{UNIT_BYTES}
use Rattle.wasi_calls.specs.rules.Held.{held_succeeding, held_widened}
use Rattle.process.specs.rules.Legacies.{LegacyValue}
use Rattle.process.specs.rules.Values.{ProcessValue, HasStarted}

-- it is at the start of some module, and has room for so many bytes of files
pub record IsAtStart (bytes : ℕ) (v : ProcessValue) : Type 0 where
  pub module_is : Module
  pub config : Settings
  pub started : HasStarted module_is config v
  pub room : bytes ≤ config.files * UNIT_BYTES

-- of version 2, if this is
abbrev pub widened_to : Version → ProcessValue → ProcessValue
widened_to One v = v
widened_to Two v = record v { host = held_widened v.host; answers = v.answers + 1 }

-- with the files, counts and time that another one has left, and in its version
abbrev pub value_succeeding : LegacyValue → ProcessValue → ProcessValue
value_succeeding left v = widened_to left.version (record v {
  host = held_succeeding left.files left.last_monotonic left.lines v.host;
  steps = left.steps;
  answers = left.answers;
  requests = left.requests;
})
