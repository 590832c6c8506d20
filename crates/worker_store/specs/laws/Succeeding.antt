-- The first savepoint of a worker that goes on from what another one has left, and what a disk that
-- begins there holds.
use Rattle.std.specs.Prelude.{◌≡◌, ℕ, List, [], length}
use Rattle.wasm_syntax.specs.declared.module.Module.{Module}
use Rattle.wasm_rules.specs.Acceptance.{IsAccepted}
use Rattle.wasi_abi.specs.declared.version.Version.{Version}
use Rattle.wasi_abi.specs.rules.Configs.{Settings, AreSettingsWithinLimits}
use Rattle.machine.specs.rules.Offers.{offer}
use Rattle.process_rules.specs.Processes.{ProcessState}
use Rattle.process_rules.specs.Origins.{Origin}
use Rattle.process_rules.specs.Runs.{first_kept, Reaches}
use Rattle.process.specs.rules.Values.{ProcessValue, ShowsProcess, IsProcess}
use Rattle.state_image.specs.rules.Saving.{saved_of}
use Rattle.sector_disk.specs.rules.DiskImage.{DiskImage}
use Rattle.disk_layout.specs.rules.Journal.{TakesRecords}
use Rattle.worker_store.specs.restart_theorem.Stands.{IsNumbered}
use Rattle.worker_store.specs.restart_theorem.Holds.{HoldsPromise}
use Rattle.worker_store.specs.restart_theorem.Successions.{promised_from}
use Rattle.worker_store.specs.rules.Savepoints.{Savepoint, IsAtSavepoint}

-- The first savepoint of a process that goes on from there, and has taken no step since. It has
-- what it goes on from as its answers, and those lines.
pub record IsFirstFrom {m : Module} {config : Settings} (v : Version) (o : Origin)
    (bytes : List ℕ) (p : ProcessState) (value : ProcessValue) (first : Savepoint m config)
    : Type 0 where
  pub generation : first.generation ≡ 1
  pub wasm : first.wasm ≡ bytes
  pub saved : first.saved ≡ saved_of value
  pub numbers : IsNumbered first.process
  pub front : first.front ≡ first_kept v o
  pub steps : first.steps ≡ o.steps
  pub process : first.process ≡ p
  pub lines : first.saved.lines ≡ length o.lines

-- There is one of each process that goes on so.
abbrev pub SuccessorIsAtHand : Type 0
SuccessorIsAtHand =
    (m : Module) (config : Settings) (v : Version) (o : Origin) (bytes : List ℕ)
    (p : ProcessState) (value : ProcessValue) → IsAccepted offer config.pages bytes m
    → AreSettingsWithinLimits config → (reached : Reaches m config (first_kept v o) o.steps p)
    → ShowsProcess value reached.guest p → IsProcess value → value.machine.guest ≡ m
    → TakesRecords (saved_of value).version config.journal
    → (first : Savepoint m config) × IsFirstFrom v o bytes p value first

-- An image that is there without records holds all that is promised of it.
abbrev pub SuccessorHoldsPromise : Type 0
SuccessorHoldsPromise =
    (m : Module) (config : Settings) (v : Version) (o : Origin) (bytes : List ℕ)
    (p : ProcessState) (value : ProcessValue) (first : Savepoint m config) (disk : DiskImage)
    → IsFirstFrom v o bytes p value first → IsAtSavepoint first [] first.process disk
    → HoldsPromise m config (promised_from v o) (promised_from v o) disk
