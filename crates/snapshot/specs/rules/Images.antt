-- What the calls that write an image do to the snapshots and to the disk (this project's own).
use Rattle.std.specs.Prelude.{◌≡◌, ◌↔◌, ◌⊎◌, ℕ, ◌+◌, ◌-◌, ◌*◌, ◌/◌, ◌<◌, ◌≤◌, min, List, ◌++◌}
use Rattle.std.specs.Prelude.{length, false, Result, Err, IsErr, IsTrue, OnOk}
use Rattle.wasi_abi.specs.declared.numbers.TheConstants.{NUMBERS_END}
use Rattle.sector_disk.specs.rules.Medium.{Medium, After, Follows, LeavesOnly, IsAllSynced, spare}
use Rattle.sector_disk.specs.rules.Medium.{CallsUpTo, CountsUpTo}
use Rattle.sector_disk.specs.declared.fault.DiskFault.{DiskFault}
use Rattle.sector_disk.specs.declared.sector.TheConstants.{SECTOR_SIZE}
use Rattle.disk_layout.specs.declared.geometry.Geometry.{Geometry}
use Rattle.disk_layout.specs.rules.Places.{area_place, journal_place, rounded_up}
use Rattle.snapshot.specs.Writing.{written_length, IsGiven, SparesSectors, SparesAllButHead}
use Rattle.snapshot.specs.declared.fault.SnapshotFault.{SnapshotFault}
use Rattle.snapshot.specs.declared.fault.SnapshotFault.TheVariants.{TooBig, Disk}
use Rattle.snapshot.specs.declared.snapshots.Snapshots.{Snapshots}
use Rattle.snapshot.specs.declared.writer.AreaWriter.{AreaWriter}
use Rattle.snapshot.specs.declared.writing.Writing.{Writing}
use Rattle.snapshot.specs.declared.writing.Writing.TheVariants.{Whole, Changes}
use Rattle.snapshot.specs.rules.Calls.{PerformsStores, PerformsStoresAndHead}
use Rattle.snapshot.specs.rules.Snapshots.{is_idle, is_failed, IsBegun, filled_by, FitsArea, CanEnd}
use Rattle.snapshot.specs.rules.Snapshots.{IsSameProcessImage, StaysFailed}
use Rattle.snapshot.specs.rules.Steps.{Fills, Commits, Replaces}

-- ---- sectors and bytes

-- sectors of an area: of which generation, how they are written, from which one on, and how many
pub record AreaPart : Type 0 where
  pub generation : ℕ
  pub writing : Writing
  pub from : ℕ
  pub count : ℕ

-- so many sectors behind those of an image that are full
abbrev pub part_behind : AreaWriter → ℕ → AreaPart
part_behind w count = record {
  generation = w.generation;
  writing = w.writing;
  from = w.sectors;
  count = count;
}

-- how many of them there are in the area
abbrev pub in_area : Geometry → AreaPart → ℕ
in_area geometry part = min part.count (geometry.area_sectors - part.from)

-- These sectors of an area are stored, up to the first error.
pub record StoresSectors {T E : Type 0} (geometry : Geometry) (part : AreaPart)
    (result : Result T E) (old new : Medium) : Type 0 where
  -- a cut at any moment leaves the newest snapshot that there was
  pub any_moment : LeavesOnly old new (After (Fills geometry part.generation) old.crash_images)
  -- each is written at most once
  pub unsynced : OnOk result (new.unsynced ≤ old.unsynced + part.count)
  -- of an image that is written whole each one is written, whatever the area held
  pub whole : part.writing ≡ Whole → OnOk result (new.unsynced ≡ old.unsynced + part.count)
  -- where only changes are written, one is spared where reads gave its bytes before
  pub spared : part.writing ≡ Changes → OnOk result (SparesSectors
      (area_place geometry part.generation) part.from (part.from + part.count) old new)
  -- at no moment were there more unsynced writes than before and these
  pub counts : CountsUpTo (old.unsynced + in_area geometry part) old new
  -- they are written in rising order, each once at most, and without a sync; after an error these
  -- calls are begun
  pub calls : PerformsStores (record {
    writing = part.writing;
    first = area_place geometry part.generation + part.from;
    count = part.count;
  }) result old new
  -- two calls at most for each of them
  pub asks : CallsUpTo (2 * in_area geometry part) old new

-- the disk had no room for the rest of the area, or it failed
abbrev pub FailsInArea : Geometry → AreaWriter → Medium → Medium → Type 0
FailsInArea geometry w old new = (spare old + w.sectors < geometry.area_sectors)
    ⊎ (old.faults < new.faults)

-- These bytes are the next ones of an image that is begun. Each sector of the area that they fill
-- is stored, up to the first error.
pub record PushesNext {T E : Type 0} (geometry : Geometry) (bytes : List ℕ) (result : Result T E)
    (before after : AreaWriter) (old new : Medium) : Type 0 where
  pub stores : StoresSectors geometry (part_behind before (filled_by before (length bytes))) result
      old new
  pub same : IsSameProcessImage before after
  -- the image has these bytes after those that were pushed
  pub pushed : OnOk result ((pushed_before : List ℕ) → IsGiven geometry old before pushed_before
      → IsGiven geometry new after (pushed_before ++ bytes))
  pub longer : OnOk result (written_length after ≡ written_length before + length bytes)
  pub fits : OnOk result (FitsArea geometry before → FitsArea geometry after)

-- the same, where the area has room for them
pub record PushesWithin (geometry : Geometry) (bytes : List ℕ)
    (result : Result (Unit {0}) SnapshotFault) (before after : AreaWriter) (old new : Medium) :
    Type 0 where
  pub pushes : PushesNext geometry bytes result before after old new
  pub room : OnOk result (FitsArea geometry after)
  -- the image would be longer than its area
  pub too_big : (result ≡ Err TooBig)
      ↔ (SECTOR_SIZE * geometry.area_sectors < written_length before + length bytes)
  -- the image is too long, the disk has too few sectors or had no room for the rest of the area, or
  -- it failed
  pub cause : IsErr result → (result ≡ Err TooBig)
      ⊎ ((fault : DiskFault) × (result ≡ Err (Disk fault))
      × ((old.sectors < journal_place geometry) ⊎ FailsInArea geometry before old new))

-- What `push` does: the same to the image that is begun. After Ok the one that is begun has taken
-- the bytes, and fits its area.
pub record PushesBytes (geometry : Geometry) (bytes : List ℕ)
    (result : Result (Unit {0}) SnapshotFault) (before after : Snapshots) (old new : Medium) :
    Type 0 where
  pub pushes : (w : AreaWriter) → IsBegun before w → (v : AreaWriter)
      × PushesWithin geometry bytes result w v old new × OnOk result (IsBegun after v)
  pub begun : OnOk result (is_idle after ≡ false)
  pub can_end : OnOk result (CanEnd geometry after.state)
  -- an error comes of an earlier call that has failed, or of a cause of these
  pub fails : StaysFailed result before after

-- ---- the end

-- An image that is begun is ended: its last sector is stored with zeros after it, and after a sync
-- its head.
pub record EndsImage {T E : Type 0} (geometry : Geometry) (result : Result T E) (w : AreaWriter)
    (old new : Medium) : Type 0 where
  -- a cut at any moment leaves the newest snapshot that there was, or this one
  pub any_moment : (bytes : List ℕ) → IsGiven geometry old w bytes → LeavesOnly old new
      (After (Commits geometry w.generation w.version bytes) old.crash_images)
  -- once it has answered Ok, each cut leaves this one
  pub done : OnOk result ((bytes : List ℕ) → IsGiven geometry old w bytes → Follows
      (Replaces geometry w.generation w.version bytes) old.crash_images new.crash_images)
  -- then no write waits for a sync
  pub all_synced : OnOk result (IsAllSynced new)
  -- at no moment were there more unsynced writes than before and one
  pub counts : CountsUpTo (old.unsynced + 1) old new
  -- where only changes are written, the last sector is spared where reads gave its bytes before
  pub spared : w.writing ≡ Changes → OnOk result (SparesAllButHead
      (area_place geometry w.generation) w.sectors (rounded_up (written_length w)) old new)
  -- of an image that is written whole, a last sector that isn't full is written, whatever the area
  -- held
  pub whole : w.writing ≡ Whole → 0 < w.filled
      → OnOk result (new.unsynced_since old.moment (old.unsynced + 1))
  -- at most the last sector is written, and then the head between two syncs; after an error these
  -- calls are begun
  pub calls : PerformsStoresAndHead (record {
    writing = w.writing;
    first = area_place geometry w.generation + w.sectors;
    count = rounded_up (written_length w) - w.sectors;
  }) w.generation result old new
  -- the disk has too few sectors, or had no room for the rest of the area or none at all, or it
  -- failed
  pub cause : IsErr result → (old.sectors < journal_place geometry)
      ⊎ (spare old + w.sectors < geometry.area_sectors) ⊎ (old.room ≡ 0)
      ⊎ (old.faults < new.faults)
  -- a read and a write of the last sector, the head, and two syncs
  pub asks : CallsUpTo 5 old new

-- ---- all of an image

-- an image with the generation and the version that its head names, and how it is written
pub record NewImage : Type 0 where
  pub generation : ℕ
  pub version : ℕ
  pub writing : Writing
  pub bytes : List ℕ

-- An image is begun, given whole, and ended, up to the first error.
pub record WritesImage {T E : Type 0} (geometry : Geometry) (image : NewImage)
    (result : Result T E) (old new : Medium) : Type 0 where
  -- a cut at any moment leaves the newest snapshot that there was, or this one
  pub any_moment : LeavesOnly old new
      (After (Commits geometry image.generation image.version image.bytes) old.crash_images)
  -- once it has answered Ok, each cut leaves this one
  pub done : OnOk result (Follows (Replaces geometry image.generation image.version image.bytes)
      old.crash_images new.crash_images)
  -- then no write waits for a sync
  pub all_synced : OnOk result (IsAllSynced new)
  -- at no moment were there more unsynced writes than before, one for each of its sectors that the
  -- area has, and one
  pub counts : CountsUpTo
      (old.unsynced + min (length image.bytes / SECTOR_SIZE) geometry.area_sectors + 1) old new
  -- where only changes are written, a sector is spared where reads gave its bytes before
  pub spared : image.writing ≡ Changes → OnOk result (SparesAllButHead
      (area_place geometry image.generation) 0 (rounded_up (length image.bytes)) old new)
  -- writes to sectors of the image, in rising order and each once at most, a sync, the head, and a
  -- sync; after an error these calls are begun
  pub calls : PerformsStoresAndHead (record {
    writing = image.writing;
    first = area_place geometry image.generation;
    count = rounded_up (length image.bytes);
  }) image.generation result old new
  -- two calls for each sector of the area at most, and five
  pub asks : CallsUpTo (2 * geometry.area_sectors + 5) old new

-- What `commit` does.
pub record CommitsImage (geometry : Geometry) (image : NewImage)
    (result : Result (Unit {0}) SnapshotFault) (before after : Snapshots) (old new : Medium) :
    Type 0 where
  pub writes : WritesImage geometry image result old new
  pub idle : OnOk result (IsTrue (is_idle after))
  -- the generation is too late, or the image is longer than its area
  pub too_big : (result ≡ Err TooBig) ↔ ((is_failed before ≡ false)
      × ((NUMBERS_END ≤ image.generation)
      ⊎ (SECTOR_SIZE * geometry.area_sectors < length image.bytes)))
  pub fails : StaysFailed result before after
  -- an earlier call has failed, the image is too big, the disk has too few sectors, or had no room
  -- for an area or none at all, or it failed
  pub cause : IsErr result → IsTrue (is_failed before) ⊎ (result ≡ Err TooBig)
      ⊎ ((fault : DiskFault) × (result ≡ Err (Disk fault))
      × ((old.sectors < journal_place geometry) ⊎ (spare old < geometry.area_sectors)
      ⊎ (old.room ≡ 0) ⊎ (old.faults < new.faults)))
