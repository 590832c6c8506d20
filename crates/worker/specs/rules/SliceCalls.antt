-- What a slice asks its disk for, and to which generation that leads (this project's own). The
-- newest call is the first.
use Rattle.std.specs.Prelude.{◌≡◌, ◌⊎◌, ℕ, ◌+◌, ◌≤◌, List, [], ◌++◌, drop, Result, Ok, Err}
use Rattle.sector_disk.specs.declared.disk_call.DiskCall.{DiskCall}
use Rattle.sector_disk.specs.rules.Medium.{Medium}
use Rattle.disk_layout.specs.rules.Places.{Geometry, area_place, journal_place}
use Rattle.journal.specs.rules.Steps.{calls_to}
use Rattle.snapshot.specs.declared.writing.Writing.TheVariants.{Changes}
use Rattle.snapshot.specs.rules.Calls.{AreStores, with_head}
use Rattle.worker_store.specs.declared.store.WorkerStore.{WorkerStore}

-- a barrier: sectors of the journal are written, in rising order and each once, and synced; for no
-- records there is no call
abbrev pub AreBarrierCalls : Geometry → List DiskCall → Type 0
AreBarrierCalls places calls = (used : ℕ) × (count : ℕ) × (used + count ≤ places.journal_sectors)
    × (calls ≡ calls_to (journal_place places + used) count)

-- a save as generation g: some sectors of its area are written, in rising order and each once at
-- most, and behind a sync come its head, and a sync
abbrev pub AreSaveCalls : Geometry → ℕ → List DiskCall → Type 0
AreSaveCalls places g calls = (count : ℕ) × (stores : List DiskCall)
    × AreStores Changes (area_place places g) count stores × (calls ≡ with_head g stores)

-- Barriers and saves, one after another, lead from the first generation to this one. By each save,
-- and by nothing else, it is one more.
pub data AreSliceCalls (places : Geometry) (first : ℕ) : ℕ → List DiskCall → Type 0 where
  none : AreSliceCalls places first first []
  barrier : (g : ℕ) (earlier calls : List DiskCall) → AreSliceCalls places first g earlier
      → AreBarrierCalls places calls → AreSliceCalls places first g (calls ++ earlier)
  save : (g : ℕ) (earlier calls : List DiskCall) → AreSliceCalls places first g earlier
      → AreSaveCalls places (g + 1) calls → AreSliceCalls places first (g + 1) (calls ++ earlier)

-- those of one more barrier, or of one more save
abbrev pub AreLastCalls : Geometry → ℕ → List DiskCall → Type 0
AreLastCalls places g calls = AreBarrierCalls places calls ⊎ AreSaveCalls places (g + 1) calls

-- After Ok these are all its calls. After an error they are those before the barrier or the save
-- that has failed, if one has. Its own calls are begun, and it leads to no other generation.
abbrev pub SliceCalls : {T E : Type 0} → Result T E → WorkerStore → WorkerStore → Medium → Medium
    → Type 0
SliceCalls (Ok done) old new disk disk' = (made : List DiskCall)
    × AreSliceCalls old.geometry old.journal.generation new.journal.generation made
    × (disk'.calls ≡ made ++ disk.calls)
SliceCalls (Err why) old new disk disk' = (made : List DiskCall) × (last : List DiskCall)
    × AreSliceCalls old.geometry old.journal.generation new.journal.generation made
    × AreLastCalls old.geometry new.journal.generation last
    × (left_out : ℕ) × (disk'.calls ≡ drop left_out last ++ (made ++ disk.calls))
