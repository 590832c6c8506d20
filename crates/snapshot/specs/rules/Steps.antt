-- What the calls of a commit change on a disk (this project's own).
use Rattle.std.specs.Prelude.{◌≡◌, ◌≢◌, ◌⊎◌, ℕ, ◌+◌, ◌-◌, ◌*◌, ◌<◌, ◌≤◌, List, ◌++◌, length}
use Rattle.wasi_abi.specs.rules.Layouts.{padding}
use Rattle.sector_disk.specs.rules.DiskImage.{DiskImage, sector_at}
use Rattle.disk_layout.specs.declared.geometry.Geometry.{Geometry}
use Rattle.disk_layout.specs.rules.Places.{head_place, area_place, rounded_up}
use Rattle.disk_layout.specs.rules.Sectors.{bytes_from, HoldsProcessImage}
use Rattle.snapshot.specs.rules.Heads.{HasNone, heads_to, IsReadyForHead}
use Rattle.snapshot.specs.rules.Newest.{IsDamaged}
use Rattle.sector_disk.specs.declared.sector.TheConstants.{SECTOR_SIZE}

-- what `newest` finds is found again
pub record KeepsNewest (geometry : Geometry) (old new : DiskImage) : Type 0 where
  pub none : HasNone old → HasNone new
  pub process_image : (g version : ℕ) (bytes : List ℕ) → HoldsProcessImage geometry old
      g version bytes → HoldsProcessImage geometry new g version bytes
  pub damaged : IsDamaged geometry old → IsDamaged geometry new
  pub heads : heads_to new ≡ heads_to old

-- in the area of this generation the sectors that these bytes take hold them, and zeros after the
-- last byte
abbrev pub HoldsWithZeros : Geometry → ℕ → List ℕ → DiskImage → Type 0
HoldsWithZeros geometry g bytes image =
    bytes_from image (area_place geometry g) (rounded_up (length bytes))
    ≡ bytes ++ padding (SECTOR_SIZE * rounded_up (length bytes) - length bytes)

-- The image of this generation is the newest one, with zeros after it up to the end of its last
-- sector. No head's sector shows a later one.
pub record HasNew (geometry : Geometry) (g version : ℕ) (bytes : List ℕ) (image : DiskImage) :
    Type 0 where
  pub holds : HoldsProcessImage geometry image g version bytes
  pub zeros : HoldsWithZeros geometry g bytes image
  pub heads : heads_to image ≡ g

-- no sector of the area of this generation
abbrev pub IsOutsideArea : Geometry → ℕ → ℕ → Type 0
IsOutsideArea geometry g k = (k < area_place geometry g)
    ⊎ (area_place geometry g + geometry.area_sectors ≤ k)

-- sectors of the area of this generation have changed, and nothing else
pub record Fills (geometry : Geometry) (g : ℕ) (old new : DiskImage) : Type 0 where
  pub count : length new ≡ length old
  pub others : (k : ℕ) → IsOutsideArea geometry g k → sector_at new k ≡ sector_at old k
  pub newest : IsReadyForHead g old → KeepsNewest geometry old new

-- The area and the head of this generation have changed, and nothing else. The newest image is the
-- old one or this one.
pub record Commits (geometry : Geometry) (g version : ℕ) (bytes : List ℕ) (old new : DiskImage) :
    Type 0 where
  pub count : length new ≡ length old
  pub others : (k : ℕ) → IsOutsideArea geometry g k → k ≢ head_place g
      → sector_at new k ≡ sector_at old k
  pub newest : IsReadyForHead g old → KeepsNewest geometry old new
      ⊎ HasNew geometry g version bytes new

-- the same, and the newest image is this one
pub record Replaces (geometry : Geometry) (g version : ℕ) (bytes : List ℕ) (old new : DiskImage) :
    Type 0 where
  pub count : length new ≡ length old
  pub others : (k : ℕ) → IsOutsideArea geometry g k → k ≢ head_place g
      → sector_at new k ≡ sector_at old k
  pub newest : IsReadyForHead g old → HasNew geometry g version bytes new
