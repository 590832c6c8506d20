-- The host's side of a process as the code keeps it (this project's own).
use Rattle.std.specs.Prelude.{◌≡◌, ℕ, ◌*◌, Bool, List, ◌+◌, ◌++◌, length, drop, Option}
use Rattle.wasi_abi.specs.declared.version.Version.{Version}
use Rattle.wasi_abi.specs.declared.version.Version.TheVariants.{Two}
use Rattle.wasi_abi.specs.rules.Configs.{Settings}
use Rattle.file_tree.specs.rules.Files.{Files}
use Rattle.file_tree.specs.declared.limits.TheConstants.{UNIT_BYTES}
use Rattle.wasi_calls_rules.specs.WasiStates.{Line, Descriptor, WasiState}
use Rattle.wasi_calls_rules.specs.Lines.{lines_ended}
use Rattle.wasi_calls.specs.rules.Outputs.{Output}

-- A host whose lines are those that wait alone, and how many lines were released before them.
pub record HeldWasiState : Type 0 where
  pub released : ℕ
  pub host : WasiState

-- the host with other lines in front of its own
abbrev pub behind_lines : List Line → WasiState → WasiState
behind_lines before h = record h { lines = before ++ h.lines }

-- It shows a host that has emitted as many lines as were released, and then those that wait.
-- Nothing is kept of the texts of the released ones, so it shows one host for each choice of them.
pub record ShowsWasiState (held : HeldWasiState) (h : WasiState) : Type 0 where
  pub before : List Line
  pub count : length before ≡ held.released
  pub is : h ≡ behind_lines before held.host

-- of its parts
abbrev pub held_host_of : Settings → Version → Files → List (Option Descriptor) → List ℕ → Bool → ℕ
    → Output → HeldWasiState
held_host_of config version files descriptors unread input_ended last_monotonic o = record {
  released = o.released;
  host = record {
    files = files;
    descriptors = descriptors;
    unread = unread;
    input_ended = input_ended;
    last_monotonic = last_monotonic;
    first = o.first;
    second = o.second;
    lines = o.waiting;
    arguments = config.arguments;
    environment = config.environment;
    room = config.files * UNIT_BYTES;
    version = version;
  };
}

-- the process ends
abbrev pub held_ended : HeldWasiState → HeldWasiState
held_ended held = record held { host = lines_ended held.host }

-- the first so many lines that wait are released
abbrev pub held_released : ℕ → HeldWasiState → HeldWasiState
held_released count held = record {
  released = held.released + count;
  host = record held.host { lines = drop count held.host.lines };
}

-- the same in version 2
abbrev pub held_widened : HeldWasiState → HeldWasiState
held_widened held = record held { host = record held.host { version = Two } }

-- the same with the files and the last monotonic time that another host has left, after so many
-- lines that were released
abbrev pub held_succeeding : Files → ℕ → ℕ → HeldWasiState → HeldWasiState
held_succeeding files last_monotonic released held = record {
  released = released;
  host = record held.host { files = files; last_monotonic = last_monotonic };
}
