-- What a barrier does to a journal and to its disk (this project's own).
use Rattle.std.specs.Prelude.{◌≡◌, ◌↔◌, ◌⊎◌, ◌+◌, ◌<◌, ◌≤◌, ◌++◌, [], true, false, List, length}
use Rattle.std.specs.Prelude.{Result, Err, OnOk, OnErr, IsErrOf}
use Rattle.sector_disk.specs.rules.DiskImage.{DiskImage}
use Rattle.sector_disk.specs.rules.Medium.{Medium, After, LeavesOnly, Passes, IsAllSynced, spare}
use Rattle.sector_disk.specs.rules.Medium.{CallsUpTo, CountsUpTo, PerformsCalls}
use Rattle.sector_disk.specs.declared.fault.DiskFault.{DiskFault}
use Rattle.disk_layout.specs.rules.Places.{Geometry, total_sectors}
use Rattle.disk_layout.specs.rules.Journal.{Record}
use Rattle.journal.specs.declared.fault.JournalFault.{JournalFault}
use Rattle.journal.specs.declared.fault.JournalFault.TheVariants.{Full, TooLong, Memory, Failed}
use Rattle.journal.specs.declared.fault.JournalFault.TheVariants.{Disk}
use Rattle.journal.specs.rules.Packed.{sectors_for}
use Rattle.journal.specs.rules.State.{JournalState, state, failed_journal}
use Rattle.journal.specs.rules.Steps.{AppendsFront, IsOn, HoldsRecords, barrier_calls}

-- The records that only memory holds are put into the next sectors, and synced.
pub record StoresKept (geometry : Geometry) (before after : JournalState)
    (result : Result (Unit {0}) JournalFault) (old new : Medium) : Type 0 where
  -- after Ok memory alone holds none of them
  pub ok : OnOk result (after ≡ state before.version before.generation
      (before.used + sectors_for (length before.kept)) [] false)
  -- after an error it holds all of them
  pub err : OnErr result (after ≡ failed_journal before)
  -- an earlier call has failed
  pub failed : (result ≡ Err Failed) ↔ (before.has_failed ≡ true)
  -- they take more sectors than the journal has left
  pub full : (result ≡ Err Full) ↔ ((before.has_failed ≡ false) × (0 < length before.kept)
      × (geometry.journal_sectors < before.used + sectors_for (length before.kept)))
  -- the disk has too few sectors, or no room for so many writes, or it failed
  pub cause : (fault : DiskFault) → result ≡ Err (Disk fault)
      → (old.sectors < total_sectors geometry)
      ⊎ ((spare old < sectors_for (length before.kept)) ⊎ (old.faults < new.faults))
  -- it takes no memory, and looks at no payload
  pub no_memory : IsErrOf result Memory → ⊥
  pub not_too_long : IsErrOf result TooLong → ⊥
  -- A cut at any moment leaves all records that were on the disk, and a prefix of these. Nothing
  -- else is changed.
  pub any_moment : (records kept : List Record)
      → IsOn geometry before.version before.generation before.used before.kept records kept
      old.crash_images
      → LeavesOnly old new (After (AppendsFront geometry before.version before.generation
      before.used records kept) old.crash_images)
  -- once it has answered Ok, each cut leaves all of them
  pub durable : (records kept : List Record)
      → IsOn geometry before.version before.generation before.used before.kept records kept
      old.crash_images
      → OnOk result ((image : DiskImage) → new.crash_images image
      → HoldsRecords geometry after.version after.generation after.used (records ++ kept) image)
  -- time goes on, and the disk has as many sectors and as much room
  pub passes : Passes old new (λ _. Unit {0})
  -- then no write waits for a sync, unless there were no such records
  pub all_synced : OnOk result ((length before.kept ≡ 0) ⊎ IsAllSynced new)
  -- as many unsynced writes as before at most, and one for each of these sectors
  pub unsynced : new.unsynced ≤ old.unsynced + sectors_for (length before.kept)
  -- each of these sectors is written once, in rising order, and then there is one sync; after an
  -- error these calls are begun
  pub calls : PerformsCalls (barrier_calls geometry before) result old new
  -- no sync is between its writes: at some moment all of them were unsynced
  pub together : OnOk result (new.unsynced_since old.moment
      (old.unsynced + sectors_for (length before.kept)))
  -- nor were there more unsynced writes at any moment in between
  pub counts : CountsUpTo (old.unsynced + sectors_for (length before.kept)) old new
  -- one call for each sector of the journal at most, and the sync
  pub asks : CallsUpTo (geometry.journal_sectors + 1) old new
