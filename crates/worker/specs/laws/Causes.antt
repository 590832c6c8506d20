-- Why calls of a worker that is open fail: of the causes that there are on any disk, these are
-- left.
use Rattle.std.specs.Prelude.{◌≡◌, ◌⊎◌, ◌+◌, ◌<◌, ◌≤◌, length, false}
use Rattle.wasm_syntax.specs.declared.module.Module.{Module}
use Rattle.wasi_abi.specs.declared.numbers.TheConstants.{NUMBERS_END}
use Rattle.wasi_abi.specs.rules.Configs.{Settings}
use Rattle.process_rules.specs.Processes.{ProcessState, Guest}
use Rattle.process.specs.rules.Values.{ProcessValue, IsProcess}
use Rattle.sector_disk.specs.declared.fault.DiskFault.{DiskFault}
use Rattle.sector_disk.specs.rules.Medium.{Medium}
use Rattle.journal.specs.rules.Packed.{sectors_for}
use Rattle.worker_store.specs.restart_theorem.Courses.{Stage}
use Rattle.worker_store.specs.restart_theorem.Lives.{Act}
use Rattle.worker_store.specs.restart_theorem.Promises.{Promise}
use Rattle.worker_store.specs.declared.fault.StoreFault.TheVariants as store
use Rattle.worker.specs.declared.fault.WorkFault.{WorkFault}
use Rattle.worker.specs.declared.fault.WorkFault.TheVariants.{Disk, Store, Upgrade}
use Rattle.worker.specs.rules.Checkpoints.{HasCheckpointCause}
use Rattle.worker.specs.rules.DurableCalls.{TakesTooFew}
use Rattle.worker.specs.rules.DurableValues.{DurableValue}
use Rattle.worker.specs.rules.OneLife.{HasActCause}
use Rattle.worker.specs.rules.OpenWorkers.{IsOpenOn}
use Rattle.worker.specs.rules.Upgrades.{HasUpgradeCause, IsInTheWay, LeavesProcess, upgraded}

-- A checkpoint: the number of the generation is at its end, or the disk failed, or it surely takes
-- too few writes between two syncs.
abbrev pub IsCheckpointFault : DurableValue → Medium → Medium → WorkFault → Type 0
IsCheckpointFault w old new (Store store.TooBig) = NUMBERS_END ≤ w.store.journal.generation + 1
IsCheckpointFault w old new (Disk fault) =
    (old.room < sectors_for (length w.store.journal.kept))
    ⊎ (old.room < w.store.geometry.area_sectors) ⊎ (old.room ≡ 0) ⊎ (old.faults < new.faults)
IsCheckpointFault w old new other = ⊥

-- An upgrade: something is in its way, or it fails as a checkpoint does. No memory is taken.
abbrev pub IsUpgradeFault : DurableValue → Medium → Medium → WorkFault → Type 0
IsUpgradeFault w old new (Upgrade why) = IsInTheWay why w
IsUpgradeFault w old new other = IsCheckpointFault w old new other

-- After that error the process is as it was. Only where the disk failed may it be widened.
abbrev pub LeavesOpenProcess : WorkFault → ProcessValue → ProcessValue → Type 0
LeavesOpenProcess (Disk fault) before after = (after ≡ before) ⊎ (after ≡ upgraded before)
LeavesOpenProcess other before after = after ≡ before

-- Of a worker that is open, and shows a process, a cause that a checkpoint has on any disk is one
-- of these.
abbrev pub CheckpointCausesOfOpenWorkers : {D : Type 0} → (D → Medium) → Type 0
CheckpointCausesOfOpenWorkers {D} medium =
    (m : Module) (config : Settings) (guest : Guest) (promise : Promise) (stage : Stage)
    (p : ProcessState) (w : DurableValue) (old new : D) (fault : WorkFault)
    → IsOpenOn m config guest promise stage p w (medium old)
    → (w.has_failed ≡ false → IsProcess w.process)
    → HasCheckpointCause w (medium old) (medium new) fault
    → IsCheckpointFault w (medium old) (medium new) fault

-- so it is of an upgrade, and of what that leaves
abbrev pub UpgradeCausesOfOpenWorkers : {D : Type 0} → (D → Medium) → Type 0
UpgradeCausesOfOpenWorkers {D} medium =
    (m : Module) (config : Settings) (guest : Guest) (promise : Promise) (stage : Stage)
    (p : ProcessState) (w : DurableValue) (old new : D) (fault : WorkFault) (after : ProcessValue)
    → IsOpenOn m config guest promise stage p w (medium old)
    → (w.has_failed ≡ false → IsProcess w.process)
    → HasUpgradeCause w (medium old) (medium new) fault → LeavesProcess w fault after
    → IsUpgradeFault w (medium old) (medium new) fault × LeavesOpenProcess fault w.process after

-- A fault of the disk comes only where it has failed since, or surely takes too few writes between
-- two syncs; so it is of each call.
abbrev pub DiskFaultsOfOpenWorkers : {D : Type 0} → (D → Medium) → Type 0
DiskFaultsOfOpenWorkers {D} medium =
    (m : Module) (config : Settings) (guest : Guest) (promise : Promise) (stage : Stage)
    (p : ProcessState) (act : Act) (w w' : DurableValue) (old new : D) (fault : DiskFault)
    → IsOpenOn m config guest promise stage p w (medium old)
    → HasActCause act w (Disk fault) w' (medium old) (medium new)
    → TakesTooFew config (medium old) ⊎ ((medium old).faults < (medium new).faults)
