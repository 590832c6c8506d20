-- The bytes of a disk, sector by sector.
use Rattle.std.specs.Prelude.{◌≡◌, ◌<◌, ◌≤◌, ◌++◌, ℕ, List, [], length, take, drop, slice_index_or}
use Rattle.std.specs.Prelude.{slice_set, replicate}
use Rattle.sector_disk.specs.declared.sector.TheConstants.{SECTOR_SIZE}

-- the bytes of a disk, sector by sector
abbrev pub DiskImage : Type 0
DiskImage = List (List ℕ)

-- what sector k holds, and nothing past the last one
abbrev pub sector_at : DiskImage → ℕ → List ℕ
sector_at image k = slice_index_or image k []

-- the image with these bytes in sector k; past the last one it stays as it is
abbrev pub with_sector : DiskImage → ℕ → List ℕ → DiskImage
with_sector image k bytes = slice_set image k bytes

-- the first bytes of new, and the older ones after them
abbrev pub front_over : ℕ → List ℕ → List ℕ → List ℕ
front_over front new old = take front new ++ drop front old

-- the image after a write of these bytes to sector k, of which a front was left
abbrev pub with_front : DiskImage → ℕ → ℕ → List ℕ → DiskImage
with_front image k front bytes = with_sector image k (front_over front bytes (sector_at image k))

-- so many sectors of so many bytes each
pub record IsDiskImage (sectors : ℕ) (image : DiskImage) : Type 0 where
  pub count : length image ≡ sectors
  pub full : (k : ℕ) → k < sectors → length (sector_at image k) ≡ SECTOR_SIZE

-- so many sectors of zeros
abbrev pub zeros : ℕ → DiskImage
zeros sectors = replicate sectors (replicate SECTOR_SIZE 0)

-- new is old after a write of these bytes to sector k, of which a front was left, at most so many
-- bytes of it
pub record IsTornWithin (most k : ℕ) (bytes : List ℕ) (old new : DiskImage) : Type 0 where
  pub front : ℕ
  pub within : front ≤ most
  pub is : new ≡ with_front old k front bytes

-- new is old after a write of these bytes to sector k, of which some prefix was left
abbrev pub IsTorn : ℕ → List ℕ → DiskImage → DiskImage → Type 0
IsTorn k bytes old new = IsTornWithin SECTOR_SIZE k bytes old new

-- new is old after a write of these bytes to sector k, of which just this front was left
abbrev pub IsFront : ℕ → ℕ → List ℕ → DiskImage → DiskImage → Type 0
IsFront front k bytes old new = new ≡ with_front old k front bytes

-- new is old after the whole write
abbrev pub IsWritten : ℕ → List ℕ → DiskImage → DiskImage → Type 0
IsWritten k bytes old new = new ≡ with_sector old k bytes
