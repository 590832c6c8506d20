-- An image that is being written into its area (this project's own).
use Rattle.std.specs.Prelude.{◌≡◌, ℕ, ◌+◌, ◌*◌, ◌<◌, ◌≤◌, max, List, [], ◌++◌, length, take}
use Rattle.sector_disk.specs.rules.DiskImage.{DiskImage, sector_at}
use Rattle.sector_disk.specs.rules.Medium.{Medium, Holds, CountsUpTo}
use Rattle.disk_layout.specs.declared.geometry.Geometry.{Geometry}
use Rattle.disk_layout.specs.rules.Places.{area_place}
use Rattle.disk_layout.specs.rules.Sectors.{bytes_from}
use Rattle.snapshot.specs.Hashing.{Hashes}
use Rattle.snapshot.specs.declared.writer.AreaWriter.{AreaWriter}
use Rattle.snapshot.specs.declared.writing.Writing.{Writing}
use Rattle.sector_disk.specs.declared.sector.TheConstants.{SECTOR_SIZE}

-- how many bytes it was given
abbrev pub written_length : AreaWriter → ℕ
written_length w = SECTOR_SIZE * w.sectors + w.filled

-- it writes the image of this generation, whole or its changes, and was given no byte
pub record Starts (g v : ℕ) (writing : Writing) (w : AreaWriter) : Type 0 where
  pub generation : w.generation ≡ g
  pub version : w.version ≡ v
  pub told : w.writing ≡ writing
  pub sectors : w.sectors ≡ 0
  pub filled : w.filled ≡ 0
  pub hashed : Hashes w.hasher []

-- reads gave the sectors from one to another, counted from a place, as this image has them
abbrev pub GaveSectors : Medium → DiskImage → ℕ → ℕ → ℕ → Type 0
GaveSectors m image place from to =
    (k : ℕ) → from ≤ k → k < to → Holds m (place + k) (sector_at image (place + k))

-- Of the sectors from one to another, counted from a place, none is written where reads gave them
-- before as they do now. Those after them are as they were.
pub record SparesSectors (place from to : ℕ) (old new : Medium) : Type 0 where
  pub spared : (image : DiskImage) → new.shows image → GaveSectors old image place from to
      → CountsUpTo old.unsynced old new × old.shows image
  pub behind : (image : DiskImage) → new.shows image → (was : DiskImage) × old.shows was
      × ((k : ℕ) → to ≤ k → sector_at image (place + k) ≡ sector_at was (place + k))

-- The same where a head is written at the end. The disk shows the area as it was.
pub record SparesAllButHead (place from to : ℕ) (old new : Medium) : Type 0 where
  pub spared : (image : DiskImage) → new.shows image → GaveSectors old image place from to
      → CountsUpTo (max old.unsynced 1) old new × ((was : DiskImage) × old.shows was
      × ((k : ℕ) → sector_at image (place + k) ≡ sector_at was (place + k)))

-- It was given these bytes: its hasher holds them, and reads give them in the area's first sectors,
-- but for the last of them, with which its own sector begins.
pub record IsGiven (geometry : Geometry) (m : Medium) (w : AreaWriter) (bytes : List ℕ) :
    Type 0 where
  pub hashed : Hashes w.hasher bytes
  pub count : length bytes ≡ written_length w
  pub held : (image : DiskImage) → m.shows image
      → bytes_from image (area_place geometry w.generation) w.sectors ++ take w.filled w.sector
      ≡ bytes
