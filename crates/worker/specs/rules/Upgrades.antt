-- What an upgrade does to a worker and its disk: how a worker of version 1 becomes one of version 2
-- (this project's own).
use Rattle.std.specs.Prelude.{◌≡◌, ◌⊎◌, ℕ, ◌+◌, ◌*◌, ◌<◌, false, [], ◌∷◌, ◌++◌, length, take}
use Rattle.std.specs.Prelude.{Result, Err}
use Rattle.wasm_syntax.specs.declared.module.Module.{Module}
use Rattle.wasi_abi.specs.declared.numbers.TheConstants.{NUMBERS_END}
use Rattle.wasi_abi.specs.declared.version.Version.{Version}
use Rattle.wasi_abi.specs.declared.version.Version.TheVariants.{One, Two}
use Rattle.wasi_abi.specs.rules.Configs.{Settings}
use Rattle.wasi_calls.specs.rules.Held.{held_widened}
use Rattle.process_rules.specs.Processes.{ProcessState, Guest}
use Rattle.process_rules.specs.Runs.{Wider, widened, Runs}
use Rattle.process.specs.rules.Values.{ProcessValue, ShowsProcess}
use Rattle.state_image.specs.rules.ProcessImage.{process_image}
use Rattle.state_image.specs.rules.Saving.{saved_of}
use Rattle.sector_disk.specs.declared.sector.TheConstants.{SECTOR_SIZE}
use Rattle.sector_disk.specs.rules.DiskImage.{DiskImage}
use Rattle.sector_disk.specs.rules.Medium.{Medium, LeavesOnly}
use Rattle.disk_layout.specs.rules.Journal.{TakesRecords}
use Rattle.journal.specs.rules.Steps.{barrier_calls}
use Rattle.worker_store.specs.restart_theorem.Stands.{StandsFor}
use Rattle.worker_store.specs.restart_theorem.Courses.{Stage}
use Rattle.worker_store.specs.restart_theorem.Promises.{Promise, HoldsAll}
use Rattle.worker_store.specs.declared.fault.StoreFault.TheVariants as store
use Rattle.worker.specs.declared.fault.WorkFault.{WorkFault}
use Rattle.worker.specs.declared.fault.WorkFault.TheVariants.{Disk, Store, Upgrade}
use Rattle.worker.specs.declared.upgrade_fault.UpgradeFault.{UpgradeFault}
use Rattle.worker.specs.declared.upgrade_fault.UpgradeFault.TheVariants.{JournalTooSmall}
use Rattle.worker.specs.declared.upgrade_fault.UpgradeFault.TheVariants.{NotCaughtUp}
use Rattle.worker.specs.rules.Checkpoints.{CheckpointCalls, HasCheckpointCause}
use Rattle.worker.specs.rules.DurableValues.{DurableValue}
use Rattle.worker.specs.rules.OpenWorkers.{IsOpenOn}

-- ---- the worker

-- a process of this version in version 2: of version 1 it is widened
abbrev pub in_version_two : Version → ProcessValue → ProcessValue
in_version_two One v = record v { host = held_widened v.host; answers = v.answers + 1 }
in_version_two Two v = v

-- a process in version 2, whatever its version
abbrev pub upgraded : ProcessValue → ProcessValue
upgraded v = in_version_two v.host.host.version v

-- The worker is of version 2, and its store one generation on. Where its process was of version 1,
-- it shows what it showed, widened. Else it is as it was.
pub record IsUpgradedIn (old new : DurableValue) : Type 0 where
  pub process : new.process ≡ upgraded old.process
  pub version : new.process.host.host.version ≡ Two
  pub widens : old.process.host.host.version ≡ One → (guest : Guest) (p : ProcessState)
      → ShowsProcess old.process guest p → ShowsProcess new.process guest (widened p)
  pub abreast : new.is_abreast ≡ old.is_abreast
  pub replayed : new.replayed ≡ old.replayed
  pub unfailed : new.has_failed ≡ old.has_failed
  pub generation : new.store.journal.generation ≡ old.store.journal.generation + 1

-- the same worker with its process in version 2
abbrev pub with_version_two : DurableValue → DurableValue
with_version_two w = record w { process = upgraded w.process }

-- The calls are those of a checkpoint of it. After an error they are begun.
abbrev pub UpgradeCalls : {T E : Type 0} → DurableValue → Result T E → Medium → Medium → Type 0
UpgradeCalls w result old new = CheckpointCalls (with_version_two w) result old new

-- ---- errors

-- its journal can't take the longest record of version 2
abbrev pub IsTooSmall : DurableValue → Type 0
IsTooSmall w = TakesRecords Two w.store.geometry.journal_sectors → ⊥

-- it can, but lines beyond the process of version 1 may have been told
pub record IsNotCaughtUp (w : DurableValue) : Type 0 where
  pub takes : TakesRecords Two w.store.geometry.journal_sectors
  pub version : w.process.host.host.version ≡ One
  pub behind : w.is_abreast ≡ false

-- what is in the way of an upgrade
abbrev pub IsInTheWay : UpgradeFault → DurableValue → Type 0
IsInTheWay JournalTooSmall w = IsTooSmall w
IsInTheWay NotCaughtUp w = IsNotCaughtUp w

-- A worker that hasn't failed is refused for what is in the way, before anything is asked of the
-- disk. Its process is as it was.
abbrev pub RefusesUpgrade : {D : Type 0} → DurableValue → Result (Unit {0}) WorkFault
    → DurableValue → D → D → Type 0
RefusesUpgrade old result new disk disk' =
    (why : UpgradeFault) → old.has_failed ≡ false → IsInTheWay why old
    → (result ≡ Err (Upgrade why)) × (new.process ≡ old.process) × (disk' ≡ disk)

-- When each error comes, whatever is on the disk: else as of a checkpoint in version 2.
abbrev pub HasUpgradeCause : DurableValue → Medium → Medium → WorkFault → Type 0
HasUpgradeCause w old new (Upgrade why) = IsInTheWay why w
HasUpgradeCause w old new other = HasCheckpointCause (with_version_two w) old new other

-- What each error leaves of the process, whatever is on the disk: as it was. It may be widened
-- where the disk failed; or where its image is then longer than the area, and the next generation
-- has a number.
abbrev pub LeavesProcess : DurableValue → WorkFault → ProcessValue → Type 0
LeavesProcess w (Disk fault) after = (after ≡ w.process) ⊎ (after ≡ upgraded w.process)
LeavesProcess w (Store store.TooBig) after = (after ≡ w.process) ⊎ ((after ≡ upgraded w.process)
    × (w.store.journal.generation + 1 < NUMBERS_END)
    × (SECTOR_SIZE * w.store.geometry.area_sectors < length (process_image (saved_of after))))
LeavesProcess w other after = after ≡ w.process

-- ---- the disk

-- It is in version 1 for a prefix of the kept answers, which holds all that is promised.
pub record StandsInOne (m : Module) (config : Settings) (promise : Promise) (disk : DiskImage)
    : Type 0 where
  pub held : ℕ
  pub steps : ℕ
  pub stands : StandsFor disk m config (take held promise.kept) steps
  pub version : stands.saved.version ≡ One
  pub holds : HoldsAll m config promise.kept promise held steps

-- It is in version 1 for all of them. What they lead to comes to p without another one.
pub record LeadsInOne (m : Module) (config : Settings) (promise : Promise) (p : ProcessState)
    (disk : DiskImage) : Type 0 where
  pub steps : ℕ
  pub stands : StandsFor disk m config promise.kept steps
  pub version : stands.saved.version ≡ One
  pub more : ℕ
  pub runs : Runs stands.reached.guest stands.last [] more p

-- It is in version 2 for p, widened. No record is after that.
pub record StandsInTwo (m : Module) (config : Settings) (promise : Promise) (p : ProcessState)
    (disk : DiskImage) : Type 0 where
  pub stands : StandsFor disk m config (promise.kept ++ Wider p.steps ∷ []) p.steps
  pub version : stands.saved.version ≡ Two
  pub at : stands.process ≡ widened p
  pub alone : stands.records ≡ []

-- The migration theorem, of an open worker of version 1. A cut at any moment of an upgrade leaves
-- version 1. Or there was a moment, once all its pending records were on the disk, up to which that
-- is so. From then on a cut leaves either version, whole.
abbrev pub Migrates : {D : Type 0} → (D → Medium) → DurableValue → D → D → Type 0
Migrates {D} medium old disk disk' =
    (m : Module) (config : Settings) (guest : Guest) (promise : Promise) (stage : Stage)
    (p : ProcessState) → IsOpenOn m config guest promise stage p old (medium disk)
    → p.host.version ≡ One
    → LeavesOnly (medium disk) (medium disk') (StandsInOne m config promise)
    ⊎ ((barred : D)
    × ((medium barred).calls
    ≡ barrier_calls old.store.geometry old.store.journal ++ (medium disk).calls)
    × LeavesOnly (medium disk) (medium barred) (StandsInOne m config promise)
    × LeavesOnly (medium barred) (medium disk') (λ image.
    LeadsInOne m config promise p image ⊎ StandsInTwo m config promise p image))

-- once it has answered Ok, each cut leaves version 2
abbrev pub EndsInTwo : DurableValue → Medium → Medium → Type 0
EndsInTwo w old new =
    (m : Module) (config : Settings) (guest : Guest) (promise : Promise) (stage : Stage)
    (p : ProcessState) → IsOpenOn m config guest promise stage p w old → p.host.version ≡ One
    → (image : DiskImage) → new.crash_images image → StandsInTwo m config promise p image
