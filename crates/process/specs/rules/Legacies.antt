-- What a process leaves to another one, which goes on from it with other code (this project's own).
use Rattle.std.specs.Prelude.{◌≡◌, ℕ, ◌+◌, ◌<◌, ◌^◌, [], length}
use Rattle.wasm_syntax.specs.declared.module.Module.{Module}
use Rattle.wasm_rules.specs.Linking.{IsLinkable}
use Rattle.wasi_abi.specs.declared.version.Version.{Version}
use Rattle.wasi_abi.specs.rules.Configs.{Settings}
use Rattle.file_tree.specs.rules.Files.{Files, used, only_named}
use Rattle.machine.specs.rules.Offers.{offer}
use Rattle.process_rules.specs.Processes.{ProcessState}
use Rattle.process_rules.specs.Origins.{Origin, IsOrigin}
use Rattle.process_rules.specs.Runs.{Reaches, first_kept}
use Rattle.process.specs.rules.Values.{ProcessValue, ShowsProcess, lines_in, waiting_in}

-- Files, how many lines were emitted, the other counts, the last monotonic time and the version.
pub record LegacyValue : Type 0 where
  pub files : Files
  pub lines : ℕ
  pub steps : ℕ
  pub answers : ℕ
  pub requests : ℕ
  pub last_monotonic : ℕ
  pub version : Version

-- of its parts
abbrev pub legacy_from : Files → ℕ → ℕ → ℕ → ℕ → ℕ → Version → LegacyValue
legacy_from files lines steps answers requests last_monotonic version = record {
  files = files;
  lines = lines;
  steps = steps;
  answers = answers;
  requests = requests;
  last_monotonic = last_monotonic;
  version = version;
}

-- what is known of an origin, of whose lines only the number is, and the version
abbrev pub legacy_of : Version → Origin → LegacyValue
legacy_of version o = record {
  files = o.files;
  lines = length o.lines;
  steps = o.steps;
  answers = o.answers;
  requests = o.requests;
  last_monotonic = o.last_monotonic;
  version = version;
}

-- It is known of some origin, which has room where its files have. Steps and lines can be counted.
pub record IsLegacy (left : LegacyValue) : Type 0 where
  pub origin : Origin
  pub is_origin : IsOrigin (used left.files) origin
  pub is : left ≡ legacy_of left.version origin
  pub few_steps : left.steps < 2 ^ 63
  pub few_lines : left.lines + 2 < 2 ^ 63

-- What a process leaves. Removed nodes are gone, and the change of code is one step more.
abbrev pub left_by : ProcessValue → LegacyValue
left_by v = record {
  files = only_named v.host.host.files;
  lines = lines_in v;
  steps = v.steps + 1;
  answers = v.answers;
  requests = v.requests;
  last_monotonic = v.host.host.last_monotonic;
  version = v.host.host.version;
}

-- The module can be linked under this configuration, and no line waits. Whatever lines the legacy
-- is of, the process is what the module comes to by going on from their origin, and by nothing
-- else. If that was of version 2, it is, too.
pub record HasSucceeded (m : Module) (config : Settings) (left : LegacyValue)
    (value : ProcessValue) : Type 0 where
  pub linkable : IsLinkable offer config.pages m
  pub guest : value.machine.guest ≡ m
  pub none_waits : waiting_in value ≡ []
  pub shows : (version : Version) (o : Origin) → left ≡ legacy_of version o → (p : ProcessState)
      × (reached : Reaches m config (first_kept version o) o.steps p)
      × ShowsProcess value reached.guest p
