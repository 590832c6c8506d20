-- A worker that goes on from what another one left, with other code (this project's own). What the
-- one hands over, and what a creation keeps of it for the other.
use Rattle.std.specs.Prelude.{◌≡◌, ◌⊎◌, ℕ, ◌+◌, ◌*◌, ◌<◌, ◌≤◌, List, [], length, Result, Ok, Err}
use Rattle.std.specs.Prelude.{OnOk}
use Rattle.wasm_syntax.specs.declared.module.Module.{Module}
use Rattle.wasm_rules.specs.Acceptance.{IsAccepted}
use Rattle.wasi_abi.specs.declared.numbers.TheConstants.{NUMBERS_END}
use Rattle.wasi_abi.specs.declared.version.Version.{Version}
use Rattle.wasi_abi.specs.rules.Configs.{Settings}
use Rattle.file_tree.specs.rules.Files.{only_named}
use Rattle.machine.specs.rules.Offers.{offer}
use Rattle.process_rules.specs.Origins.{Origin}
use Rattle.process_rules.specs.Processes.{ProcessState, Guest}
use Rattle.process_rules.specs.Runs.{Kept}
use Rattle.process.specs.rules.Legacies.{LegacyValue, legacy_of}
use Rattle.state_image.specs.rules.ProcessImage.{Saved}
use Rattle.sector_disk.specs.declared.fault.DiskFault.{DiskFault}
use Rattle.sector_disk.specs.declared.sector.TheConstants.{SECTOR_SIZE}
use Rattle.sector_disk.specs.rules.DiskImage.{DiskImage}
use Rattle.sector_disk.specs.rules.Medium.{Medium, IsAllSynced, LeavesOnly, PerformsCalls}
use Rattle.disk_layout.specs.rules.Journal.{Record, TakesRecords}
use Rattle.disk_layout.specs.rules.Places.{geometry_of, total_sectors}
use Rattle.disk_layout.specs.rules.Sectors.{HasWorker}
use Rattle.worker_store.specs.restart_theorem.Between.{FindsNoWorker}
use Rattle.worker_store.specs.restart_theorem.Holds.{HoldsPromise, KeepsBounds, KeepsPromise}
use Rattle.worker_store.specs.restart_theorem.Holds.{StaysWithin}
use Rattle.worker_store.specs.restart_theorem.Promises.{Promise}
use Rattle.worker_store.specs.restart_theorem.Stands.{IsBlank, StandsFor}
use Rattle.worker_store.specs.restart_theorem.Successions.{IsAtRest, promised_from}
use Rattle.worker_store.specs.rules.Creations.{creation_calls}
use Rattle.worker.specs.declared.fault.WorkFault.{WorkFault}
use Rattle.worker.specs.declared.fault.WorkFault.TheVariants.{Disk, Upgrade}
use Rattle.worker.specs.declared.handover.Handover.{Handover}
use Rattle.worker.specs.declared.leave_fault.LeaveFault.{LeaveFault}
use Rattle.worker.specs.declared.leave_fault.LeaveFault.TheVariants.{NotParked, StepsSpent, Recover}
use Rattle.worker.specs.declared.recover_fault.RecoverFault.{RecoverFault}
use Rattle.worker.specs.declared.recover_fault.RecoverFault.TheVariants.{Worker}
use Rattle.worker.specs.declared.upgrade_fault.UpgradeFault.TheVariants.{JournalTooSmall}
use Rattle.worker.specs.rules.DurableCreations.{IsNotCreatedOn, IsRefusedAtFirst, places_for}
use Rattle.worker.specs.rules.Recoveries.{IsJustSynced, SaysNothing, SyncFails}
use Rattle.worker.specs.rules.ShownDisks.{HoldsWorker, ShowsFault}

-- ---- what a worker hands over

-- The process of its snapshot is at rest, and no record comes after it. So no life has gone beyond.
pub record IsParked (records : List Record) (guest : Guest) (p : ProcessState) : Type 0 where
  pub no_records : records ≡ []
  pub at_rest : IsAtRest guest p

-- What a saved process leaves. Removed nodes are gone. The change of code counts as a step.
abbrev pub legacy_in : Saved → LegacyValue
legacy_in s = record {
  files = only_named s.files;
  lines = s.lines;
  steps = s.steps + 1;
  answers = s.answers;
  requests = s.requests;
  last_monotonic = s.last_monotonic;
  version = s.version;
}

-- that, and how many bytes of its unfinished lines are dropped
abbrev pub handed_over : Saved → Handover
handed_over s = record {
  legacy = legacy_in s;
  dropped = length s.first + length s.second;
}

-- Whatever is on the disk: what the worker hands over that the image holds, by its newest head and
-- by no other. It is refused only where it isn't parked, or where its steps are at their end. An
-- error of a recovery says what is wrong with the image.
abbrev pub HandsOverIn : ℕ → DiskImage → Result Handover LeaveFault → Type 0
HandsOverIn sectors disk (Ok told) = (held : HoldsWorker sectors disk)
    × IsParked held.records held.well_typed.guest held.well_typed.process
    × (told ≡ handed_over held.saved)
HandsOverIn sectors disk (Err NotParked) = (held : HoldsWorker sectors disk)
    × (IsParked held.records held.well_typed.guest held.well_typed.process → ⊥)
HandsOverIn sectors disk (Err StepsSpent) = (held : HoldsWorker sectors disk)
    × IsParked held.records held.well_typed.guest held.well_typed.process
    × (NUMBERS_END ≤ held.saved.steps + 1)
HandsOverIn sectors disk (Err (Recover why)) = ShowsFault sectors disk why

-- So it is of the worker that an image stands for. Then an error of a recovery says nothing of it.
abbrev pub HandsOverAt : {disk : DiskImage} {m : Module} {config : Settings} {kept : List Kept}
    {n : ℕ} → StandsFor disk m config kept n → Result Handover LeaveFault → Type 0
HandsOverAt stands (Ok told) = IsParked stands.records stands.reached.guest stands.process
    × (told ≡ handed_over stands.saved)
HandsOverAt stands (Err NotParked) =
    IsParked stands.records stands.reached.guest stands.process → ⊥
HandsOverAt stands (Err StepsSpent) = IsParked stands.records stands.reached.guest stands.process
    × (NUMBERS_END ≤ stands.saved.steps + 1)
HandsOverAt stands (Err (Recover why)) = SaysNothing why

-- whatever the image holds, and whatever worker it stands for on a disk of so many sectors
pub record HandsOver (sectors : ℕ) (disk : DiskImage) (result : Result Handover LeaveFault)
    : Type 0 where
  pub shown : HandsOverIn sectors disk result
  pub stands : (m : Module) (config : Settings) (kept : List Kept) (n : ℕ)
      (stands : StandsFor disk m config kept n)
      → total_sectors (geometry_of config (length stands.wasm)) ≤ sectors
      → HandsOverAt stands result

-- a fault of the disk is told only where the disk has failed since
abbrev pub IsFaultOfDisk : Result Handover LeaveFault → Medium → Medium → Type 0
IsFaultOfDisk result old new = (fault : DiskFault)
    → result ≡ Err (Recover (Worker (Disk fault))) → old.faults < new.faults

-- The disk couldn't be synced. Or it was, and then it was only read: what it shows is handed over.
abbrev pub ReadsLegacy : Result Handover LeaveFault → Medium → Medium → Type 0
ReadsLegacy result old new =
    ((why : RecoverFault) × (result ≡ Err (Recover why))
    × SyncFails {T = Handover} {O = Unit {0}} (Err why) old new tt tt)
    ⊎ (IsJustSynced old new × IsFaultOfDisk result old new
    × ((image : DiskImage) → new.shows image → HandsOver old.sectors image result))

-- ---- a worker that goes on from there

-- The bytes spell an accepted module. These very bytes and this configuration are on the disk,
-- which has all sectors of the worker.
pub record IsCreatedFrom (bytes : List ℕ) (config : Settings) (disk : Medium) : Type 0 where
  pub spelled : Module
  pub accepted : IsAccepted offer config.pages bytes spelled
  pub contents : (image : DiskImage) → disk.crash_images image → HasWorker config bytes image
  pub room : total_sectors (places_for config bytes) ≤ disk.sectors

-- When each error comes. The journal doesn't take the longest record of the version that was left.
-- Else it is as in any creation.
abbrev pub IsNotCreatedFrom : List ℕ → Settings → LegacyValue → Medium → Medium → WorkFault
    → Type 0
IsNotCreatedFrom bytes config left old new (Upgrade JournalTooSmall) =
    TakesRecords left.version config.journal → ⊥
IsNotCreatedFrom bytes config left old new why = IsNotCreatedOn bytes config old new why

-- it is refused before anything is written
abbrev pub IsRefusedBefore : WorkFault → Type 0
IsRefusedBefore (Upgrade why) = Unit {0}
IsRefusedBefore why = IsRefusedAtFirst why

-- The disk is laid out by these calls alone, for an image that fits into its area. After an error
-- they are begun.
abbrev pub SuccessionCalls : {T E : Type 0} → List ℕ → Settings → Result T E → Medium → Medium
    → Type 0
SuccessionCalls bytes config result old new = (count : ℕ)
    × (count ≤ SECTOR_SIZE * (places_for config bytes).area_sectors)
    × PerformsCalls (creation_calls (places_for config bytes) count) result old new

-- A cut at any moment leaves no worker, or one that holds all that is promised of it. That one is
-- of a generation with an event of its own, and has all its sectors on the disk.
pub record LeavesSuccessor (m : Module) (config : Settings) (promise : Promise)
    (old new : Medium) : Type 0 where
  pub any_moment : LeavesOnly old new (λ image.
      IsBlank image ⊎ HoldsPromise m config promise promise image)
  pub bounded : StaysWithin promise.events old new

-- each cut leaves that one
pub record KeepsSuccessor (m : Module) (config : Settings) (promise : Promise) (disk : Medium)
    : Type 0 where
  pub all_synced : IsAllSynced disk
  pub kept : KeepsPromise m config promise disk
  pub bounded : KeepsBounds promise.events disk

-- So it is of the module that these bytes spell, where no worker was on the disk, and after Ok
-- whatever was there. What is promised is that it goes on from what was left, and that no line up
-- to there is told again.
abbrev pub SuccessionKeeps : {E : Type 0} → List ℕ → Settings → LegacyValue
    → Result (Unit {0}) E → Medium → Medium → Type 0
SuccessionKeeps bytes config left result old new =
    (m : Module) (v : Version) (o : Origin) → IsAccepted offer config.pages bytes m
    → left ≡ legacy_of v o
    → (FindsNoWorker old → LeavesSuccessor m config (promised_from v o) old new)
    × OnOk result (KeepsSuccessor m config (promised_from v o) new)
