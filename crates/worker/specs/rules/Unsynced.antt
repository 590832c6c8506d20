-- How many writes wait for a sync at once within a call of a worker on its disk (this project's
-- own).
use Rattle.std.specs.Prelude.{◌⊎◌, ℕ, ◌+◌, ◌≤◌, max, Result, Ok, Err}
use Rattle.sector_disk.specs.rules.Medium.{Medium, CountsUpTo}
use Rattle.disk_layout.specs.rules.Places.{Geometry, total_sectors}
use Rattle.worker.specs.declared.recover_fault.RecoverFault.{RecoverFault}
use Rattle.worker.specs.rules.DurableValues.{DurableValue}

-- the sectors of the journal, or those of an area and its head
abbrev pub most_in_slice : Geometry → ℕ
most_in_slice places = max places.journal_sectors (places.area_sectors + 1)

-- at no moment were there more unsynced writes than before and these
abbrev pub CountsInSlice : Geometry → Medium → Medium → Type 0
CountsInSlice places old new = CountsUpTo (old.unsynced + most_in_slice places) old new

-- at no moment were there more than before, or than those of an area and its head
abbrev pub CountsInSaving : Geometry → Medium → Medium → Type 0
CountsInSaving places old new = CountsUpTo (max old.unsynced (places.area_sectors + 1)) old new

-- So it is in a recovery, with the worker that it has opened. After an error it wrote nothing, or
-- it is so with some worker for which the disk has room.
abbrev pub CountsInRecovery : Result DurableValue RecoverFault → Medium → Medium → Type 0
CountsInRecovery (Ok w) old new = CountsInSaving w.store.geometry old new
CountsInRecovery (Err why) old new = CountsUpTo old.unsynced old new
    ⊎ ((places : Geometry) × (total_sectors places ≤ old.sectors)
    × CountsInSaving places old new)
