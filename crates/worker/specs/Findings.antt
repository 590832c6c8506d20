-- What is found on a disk, before anything is told or written.
use Rattle.std.specs.Prelude.{◌≡◌, ℕ, ◌+◌, ◌<◌, ◌≤◌, List, [], length, Result, Ok, Err, IfErr, IfOk}
use Rattle.wasm_syntax.specs.declared.module.Module.{Module}
use Rattle.wasi_abi.specs.rules.Configs.{Settings}
use Rattle.wasi_calls_rules.specs.laws.Laws.{IsOfBytes}
use Rattle.process_rules.specs.Processes.{ProcessState, host_of}
use Rattle.process.specs.rules.Values.{ShowsProcess, IsProcess, waiting_in, lines_in}
use Rattle.sector_disk.specs.rules.DiskImage.{DiskImage}
use Rattle.sector_disk.specs.rules.Medium.{Medium, CallsUpTo}
use Rattle.disk_layout.specs.declared.reading.contents.Contents.{Contents}
use Rattle.disk_layout.specs.rules.Journal.{Record}
use Rattle.disk_layout.specs.rules.Places.{total_sectors}
use Rattle.disk_layout.specs.rules.Stored.{OnlyReads}
use Rattle.state_image.specs.rules.Saving.{saved_of}
use Rattle.worker_store.specs.rules.Savepoints.{Savepoint, places, IsAtSavepoint}
use Rattle.worker.specs.declared.found.Found.{Found}
use Rattle.worker.specs.declared.fault.WorkFault.TheVariants.{Disk}
use Rattle.worker.specs.declared.recover_fault.RecoverFault.{RecoverFault}
use Rattle.worker.specs.declared.recover_fault.RecoverFault.TheVariants.{Worker, Replay}
use Rattle.worker.specs.declared.surveyed.Survey.{Survey}
use Rattle.worker.specs.rules.RecoverFaults.{IsOfItsLayer}
use Rattle.worker.specs.rules.Recoveries.{SaysNothing}

-- the process of this savepoint, of these bytes of a module, and these records
pub record IsFoundAt {m : Module} {config : Settings} (wasm : List ℕ) (point : Savepoint m config)
    (records : List Record) (found : Found) : Type 0 where
  pub spelled : point.wasm ≡ wasm
  pub geometry : found.geometry ≡ places point
  pub generation : found.generation ≡ point.generation
  pub records_are : found.records.items ≡ records
  pub saved : saved_of found.process ≡ point.saved
  pub shows : ShowsProcess found.process point.reached.guest point.process
  pub module_is : found.process.machine.guest ≡ m
  pub some : IsProcess found.process
  pub none_waits : waiting_in found.process ≡ []
  pub texts : IsOfBytes (host_of config)

-- the numbers of its process, its version, and how many records there are
abbrev pub numbers_of_found : Found → Survey
numbers_of_found found = record {
  generation = found.generation;
  steps = found.process.steps;
  answers = found.process.answers;
  lines = lines_in found.process;
  records = length found.records.items;
  version = found.process.host.host.version;
}

-- that, or an error that says nothing of what is on the disk
abbrev pub FindsPoint : {m : Module} {config : Settings} → List ℕ → Savepoint m config
    → List Record → Result Found RecoverFault → Type 0
FindsPoint wasm point records (Ok found) = IsFoundAt wasm point records found
FindsPoint wasm point records (Err why) = SaysNothing why

-- what an image that is at a savepoint is found to be
abbrev pub FindsWorker : ℕ → List ℕ → DiskImage → Result Found RecoverFault → Type 0
FindsWorker sectors wasm disk result =
    (m : Module) (config : Settings) (point : Savepoint m config) (records : List Record)
    (last : ProcessState) → IsAtSavepoint point records last disk
    → total_sectors (places point) ≤ sectors → FindsPoint wasm point records result

-- Whichever image reads give, it is found to be so, and all of them by the same bytes of a module.
abbrev pub FindsOne : ℕ → Medium → Result Found RecoverFault → Type 0
FindsOne sectors disk result = (wasm : List ℕ)
    × ((image : DiskImage) → disk.shows image → FindsWorker sectors wasm image result)

-- When an error comes of a search, whatever is on the disk. A fault of the disk comes only where
-- the disk has failed since. Nothing is replayed or saved, and each other error is what its layer
-- says itself.
abbrev pub HasSearchCause : Medium → Medium → RecoverFault → Type 0
HasSearchCause old new (Worker (Disk fault)) = old.faults < new.faults
HasSearchCause old new (Worker other) = ⊥
HasSearchCause old new (Replay fault) = ⊥
HasSearchCause old new other = IsOfItsLayer other

-- What a search does, whatever it finds.
pub record Searches (most : ℕ) (result : Result Found RecoverFault) (old new : Medium) : Type 0
  where
    pub reads : OnlyReads old new
    -- the disk has room for the places of what is found
    pub room : IfOk result (λ found. total_sectors found.geometry ≤ new.sectors)
    pub shows : IfOk result (λ found. IsProcess found.process)
    -- its nodes have numbers that its steps can have given
    pub next : IfOk result (λ found. found.process.host.host.files.next ≤ found.process.steps + 2)
    pub cause : IfErr result (HasSearchCause old new)
    pub asks : CallsUpTo most old new

-- its configuration and its module were read
abbrev pub IsContentOf : {m : Module} {config : Settings} → Savepoint m config → Contents → Type 0
IsContentOf {config = config} point contents =
    contents ≡ record { geometry = places point; config = config; wasm = point.wasm }

-- what is after them
abbrev pub FindsBehind : Contents → DiskImage → Result Found RecoverFault → Type 0
FindsBehind contents disk result =
    (m : Module) (config : Settings) (point : Savepoint m config) (records : List Record)
    (last : ProcessState) → IsAtSavepoint point records last disk → IsContentOf point contents
    → FindsPoint contents.wasm point records result
