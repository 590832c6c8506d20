-- What a checkpoint does to a worker and its disk (this project's own).
use Rattle.std.specs.Prelude.{◌≡◌, ◌⊎◌, ◌+◌, ◌-◌, ◌*◌, ◌≤◌, ◌<◌, List, ◌++◌, length, true, Result}
use Rattle.wasi_abi.specs.declared.numbers.TheConstants.{NUMBERS_END}
use Rattle.state_image.specs.rules.ProcessImage.{process_image}
use Rattle.state_image.specs.rules.Saving.{saved_of}
use Rattle.sector_disk.specs.declared.disk_call.DiskCall.{DiskCall}
use Rattle.sector_disk.specs.declared.sector.TheConstants.{SECTOR_SIZE}
use Rattle.sector_disk.specs.rules.Medium.{Medium, PerformsCalls, spare}
use Rattle.disk_layout.specs.rules.Places.{area_place, rounded_up}
use Rattle.journal.specs.rules.Packed.{sectors_for}
use Rattle.journal.specs.rules.Steps.{barrier_calls}
use Rattle.snapshot.specs.declared.writing.Writing.TheVariants.{Changes}
use Rattle.snapshot.specs.rules.Calls.{AreStores, with_head}
use Rattle.worker_store.specs.declared.fault.StoreFault.TheVariants as store
use Rattle.record_replay.specs.declared.slices.fault.SliceFault.TheVariants as slice
use Rattle.worker.specs.declared.fault.WorkFault.{WorkFault}
use Rattle.worker.specs.declared.fault.WorkFault.TheVariants.{Work, Disk, Store}
use Rattle.worker.specs.rules.DurableValues.{DurableValue}

-- the same worker but for its store, which is one generation on
pub record IsSavedIn (old new : DurableValue) : Type 0 where
  pub process : new.process ≡ old.process
  pub replayed : new.replayed ≡ old.replayed
  pub unfailed : new.has_failed ≡ old.has_failed
  pub generation : new.store.journal.generation ≡ old.store.journal.generation + 1

-- The pending records are written, and synced. Then some sectors of the image are written, in
-- rising order and each once at most. Behind a sync come the head of the next generation, and a
-- sync. After an error these calls are begun.
abbrev pub CheckpointCalls : {T E : Type 0} → DurableValue → Result T E → Medium → Medium → Type 0
CheckpointCalls w result old new = (stores : List DiskCall)
    × AreStores Changes (area_place w.store.geometry (w.store.journal.generation + 1))
    (rounded_up (length (process_image (saved_of w.process)))) stores
    × PerformsCalls (with_head (w.store.journal.generation + 1) stores
    ++ barrier_calls w.store.geometry w.store.journal) result old new

-- When each error comes, whatever is on the disk. The number of the generation is at its end, or
-- the area has too few sectors for the image, or the journal for the pending records. The disk
-- failed, or before its next good sync it surely takes too few writes. The worker says that it has
-- failed only where it had failed before.
abbrev pub HasCheckpointCause : DurableValue → Medium → Medium → WorkFault → Type 0
HasCheckpointCause w old new (Work slice.Failed) = w.has_failed ≡ true
HasCheckpointCause w old new (Store store.TooBig) = (NUMBERS_END ≤ w.store.journal.generation + 1)
    ⊎ (SECTOR_SIZE * w.store.geometry.area_sectors < length (process_image (saved_of w.process)))
HasCheckpointCause w old new (Store store.Full) =
    w.store.geometry.journal_sectors - w.store.journal.used
    < sectors_for (length w.store.journal.kept)
HasCheckpointCause w old new (Disk fault) =
    (spare old < sectors_for (length w.store.journal.kept))
    ⊎ (spare old < w.store.geometry.area_sectors) ⊎ (old.room ≡ 0) ⊎ (old.faults < new.faults)
HasCheckpointCause w old new other = ⊥
