-- What the parts of an upgrade do: its tests, the widening, and a barrier and a commit around it.
use Rattle.std.specs.Prelude.{◌≡◌, ◌⊎◌, ◌+◌, ◌*◌, ◌<◌, ◌++◌, true, false, length}
use Rattle.wasi_abi.specs.declared.numbers.TheConstants.{NUMBERS_END}
use Rattle.wasi_abi.specs.declared.version.Version.TheVariants.{One, Two}
use Rattle.process.specs.rules.Values.{ProcessValue}
use Rattle.state_image.specs.rules.ProcessImage.{process_image}
use Rattle.state_image.specs.rules.Saving.{saved_of}
use Rattle.sector_disk.specs.declared.sector.TheConstants.{SECTOR_SIZE}
use Rattle.sector_disk.specs.rules.Medium.{Medium}
use Rattle.disk_layout.specs.rules.Journal.{TakesRecords}
use Rattle.journal.specs.rules.Steps.{barrier_calls}
use Rattle.worker_store.specs.declared.fault.StoreFault.{StoreFault}
use Rattle.worker_store.specs.declared.fault.StoreFault.TheVariants.{TooBig, Disk, Failed}
use Rattle.worker_store.specs.declared.store.WorkerStore.{WorkerStore}
use Rattle.worker_store.specs.rules.Calls.{LeavesFronts, StoresAll, LeavesOneOfTwo}
use Rattle.worker.specs.declared.running_worker.RunningWorker.{RunningWorker}
use Rattle.worker.specs.declared.upgrade_fault.UpgradeFault.{UpgradeFault}
use Rattle.worker.specs.declared.upgrade_fault.UpgradeFault.TheVariants.{JournalTooSmall}
use Rattle.worker.specs.declared.upgrade_fault.UpgradeFault.TheVariants.{NotCaughtUp}
use Rattle.worker.specs.rules.Upgrades.{upgraded}

-- nothing is in the way of version 2
pub record MayUpgrade (w : RunningWorker) : Type 0 where
  pub takes : TakesRecords Two w.store.geometry.journal_sectors
  pub abreast : w.process.host.host.version ≡ One → w.is_abreast ≡ true

-- something is
abbrev pub IsUpgradeRefused : RunningWorker → UpgradeFault → Type 0
IsUpgradeRefused w JournalTooSmall = TakesRecords Two w.store.geometry.journal_sectors → ⊥
IsUpgradeRefused w NotCaughtUp = TakesRecords Two w.store.geometry.journal_sectors
    × (w.process.host.host.version ≡ One) × (w.is_abreast ≡ false)

-- what an error leaves of the process: as it was, or in version 2 where the commit has failed
abbrev pub AfterFault : StoreFault → WorkerStore → ProcessValue → ProcessValue → Type 0
AfterFault (Disk fault) before v w = (w ≡ v) ⊎ (w ≡ upgraded v)
AfterFault Failed before v w = (w ≡ v) ⊎ (w ≡ upgraded v)
AfterFault TooBig before v w = (w ≡ v) ⊎ ((w ≡ upgraded v)
    × (before.journal.generation + 1 < NUMBERS_END)
    × (SECTOR_SIZE * before.geometry.area_sectors < length (process_image (saved_of w))))
AfterFault other before v w = w ≡ v

-- A cut at any moment leaves a prefix of the pending records. Or there was a moment, once all of
-- them were on the disk, up to which that is so. From then on a cut leaves them, or the snapshot of
-- the process in version 2.
abbrev pub BarsAndCommits : {D : Type 0} → (D → Medium) → WorkerStore → ProcessValue
    → ProcessValue → D → D → Type 0
BarsAndCommits {D} medium before v process old new =
    LeavesFronts before (medium old) (medium new)
    ⊎ ((barred : D) × (between : WorkerStore) × (process ≡ upgraded v)
    × ((medium barred).calls
    ≡ barrier_calls before.geometry before.journal ++ (medium old).calls)
    × LeavesFronts before (medium old) (medium barred)
    × StoresAll before between (medium old) (medium barred)
    × LeavesOneOfTwo between process (medium barred) (medium new))
