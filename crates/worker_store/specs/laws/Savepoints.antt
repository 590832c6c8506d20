-- What an image that is at a savepoint stands for, by the savepoint and the records after it.
use Rattle.std.specs.Prelude.{◌≡◌, ℕ, List, [], ◌++◌, map}
use Rattle.wasm_syntax.specs.declared.module.Module.{Module}
use Rattle.wasi_abi.specs.rules.Configs.{Settings}
use Rattle.process_rules.specs.Processes.{ProcessState}
use Rattle.process_rules.specs.Runs.{Kept}
use Rattle.state_image.specs.rules.ProcessImage.{process_image}
use Rattle.sector_disk.specs.rules.DiskImage.{DiskImage}
use Rattle.disk_layout.specs.rules.Journal.{Record}
use Rattle.record_replay.specs.rules.Records.{given_in}
use Rattle.worker_store.specs.restart_theorem.Stands.{StandsFor}
use Rattle.worker_store.specs.rules.Savepoints.{Savepoint, IsAtSavepoint}

-- what an image stands by
abbrev pub point_of : {disk : DiskImage} {m : Module} {config : Settings} {kept : List Kept} {n : ℕ}
    → StandsFor disk m config kept n → Savepoint m config
point_of stands = record {
  wasm = stands.wasm;
  accepted = stands.accepted;
  settings = stands.settings;
  generation = stands.generation;
  saved = stands.saved;
  front = stands.front;
  steps = stands.steps;
  process = stands.process;
  reached = stands.reached;
  functions = stands.functions;
  function_types = stands.function_types;
  table = stands.table;
  shown = stands.shown;
  room = stands.room;
}

-- An image that stands for a worker is at the savepoint that it has.
abbrev pub IsAtItsSavepoint : Type 0
IsAtItsSavepoint =
    (disk : DiskImage) (m : Module) (config : Settings) (kept : List Kept) (n : ℕ)
    → (stands : StandsFor disk m config kept n)
    → IsAtSavepoint (point_of stands) stands.records stands.last disk

-- It stands for these answers, by this savepoint.
pub record StandsBySaved {m : Module} {config : Settings} (point : Savepoint m config)
    (kept : List Kept) (n : ℕ) (disk : DiskImage) : Type 0 where
  pub stands : StandsFor disk m config kept n
  pub saved : stands.saved ≡ point.saved
  pub generation : stands.generation ≡ point.generation
  pub wasm : stands.wasm ≡ point.wasm

-- An image that is at a savepoint stands for the answers of the savepoint and of the records after
-- it, at the step of the process to which these lead.
abbrev pub PointStands : Type 0
PointStands =
    (m : Module) (config : Settings) (point : Savepoint m config) (records : List Record)
    (last : ProcessState) (disk : DiskImage) (kept : List Kept)
    → IsAtSavepoint point records last disk → kept ≡ point.front ++ map given_in records
    → StandsBySaved point kept last.steps disk

-- Of two images the same may be read: bytes of the module, generation, image of a process, and
-- records. Then one is at the savepoint of the other.
abbrev pub ReadAlikeIsAtSavepoint : Type 0
ReadAlikeIsAtSavepoint =
    (m : Module) (config : Settings) (point other : Savepoint m config) (records : List Record)
    (last q : ProcessState) (disk found : DiskImage)
    → IsAtSavepoint point records last disk → IsAtSavepoint other records q found
    → other.wasm ≡ point.wasm → other.generation ≡ point.generation
    → process_image other.saved ≡ process_image point.saved
    → IsAtSavepoint point records last found

-- Without records that is the step of the savepoint.
abbrev pub PointStandsAlone : Type 0
PointStandsAlone =
    (m : Module) (config : Settings) (point : Savepoint m config) (disk : DiskImage)
    → IsAtSavepoint point [] point.process disk
    → StandsBySaved point point.front point.steps disk
