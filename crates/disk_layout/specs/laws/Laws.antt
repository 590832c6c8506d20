-- Laws of the sectors with stamps (this project's own).
use Rattle.std.specs.Prelude.{◌≡◌, ◌⊎◌, ℕ, ◌+◌, ◌%◌, ◌^◌, ◌<◌, ◌≤◌, List, ◌++◌, length, take, drop}
use Rattle.std.specs.List.{AllByRecursion}
use Rattle.guest_memory.specs.rules.Bytes.{IsByte}
use Rattle.sector_disk.specs.rules.DiskImage.{front_over}
use Rattle.disk_layout.specs.rules.Sectors.{Stamp, stamp_of, stamp_bytes, shown_generation, Head}
use Rattle.disk_layout.specs.rules.Sectors.{head_of, head_bytes, Super, super_of, super_layout}
use Rattle.disk_layout.specs.rules.Sectors.{super_bytes, IsMarked}
use Rattle.sector_disk.specs.declared.sector.TheConstants.{SECTOR_SIZE}
use Rattle.disk_layout.specs.declared.stamp.TheConstants.{GENERATION_AT}
use Rattle.disk_layout.specs.declared.superblock.TheConstants.{LAYOUT}

-- a write of the sector `new`, of generation h at this place, over one that shows an earlier
-- generation there, of which a front was left
pub record IsTornStamp (place h : ℕ) (old new : List ℕ) (front : ℕ) : Type 0 where
  pub full : length old ≡ SECTOR_SIZE
  pub new_full : length new ≡ SECTOR_SIZE
  pub bytes : AllByRecursion IsByte (drop GENERATION_AT new)
  pub stamped : (stamp_of new).place ≡ place
  pub generation : (stamp_of new).generation ≡ h
  pub later : shown_generation place old < h
  pub within : front ≤ SECTOR_SIZE

-- The sector then shows an earlier generation, or it shows the new one, and all that isn't its
-- stamp is the new one's.
abbrev pub ShowsEarlier : Type 0
ShowsEarlier = (place h : ℕ) (old new : List ℕ) (front : ℕ) → IsTornStamp place h old new front
    → (shown_generation place (front_over front new old) < h)
    ⊎ ((shown_generation place (front_over front new old) ≡ h)
    × (take GENERATION_AT (front_over front new old) ≡ take GENERATION_AT new))

-- Over a stamp of bytes it shows what it showed, or a generation of the same parity as the new one
-- that is less by 2 at least, or it is the new sector, byte for byte.
abbrev pub NeverNewer : Type 0
NeverNewer = (place h : ℕ) (old new : List ℕ) (front : ℕ) → IsTornStamp place h old new front
    → AllByRecursion IsByte (drop GENERATION_AT old)
    → (shown_generation place (front_over front new old) ≡ shown_generation place old)
    ⊎ (((shown_generation place (front_over front new old) % 2 ≡ h % 2)
    × (shown_generation place (front_over front new old) + 2 ≤ h))
    ⊎ (front_over front new old ≡ new))

-- ---- what is read is what was written

-- the fields have room in their bytes
pub record HeadFits (h : Head) : Type 0 where
  pub version : h.version < 2 ^ 32
  pub len : h.length_in_bytes < 2 ^ 64
  pub digest : length h.digest ≡ 32
  pub generation : h.generation < 2 ^ 64

pub record SuperFits (s : Super) : Type 0 where
  pub config : s.geometry.config < 2 ^ 32
  pub wasm : s.geometry.wasm < 2 ^ 32
  pub module_sectors : s.geometry.module_sectors < 2 ^ 32
  pub area_sectors : s.geometry.area_sectors < 2 ^ 32
  pub journal_sectors : s.geometry.journal_sectors < 2 ^ 32
  pub digest : length s.digest ≡ 32

pub record ReadsFieldsBack : Type 0 where
  pub stamp : (s : Stamp) (before : List ℕ) → length before ≡ GENERATION_AT → s.generation < 2 ^ 64
      → s.place < 2 ^ 64 → stamp_of (before ++ stamp_bytes s) ≡ s
  pub head : (h : Head) → HeadFits h → head_of (head_bytes h) ≡ h
  pub marks : (s : Super) → SuperFits s → IsMarked (super_bytes s.geometry s.digest)
  pub layout : (s : Super) → super_layout (super_bytes s.geometry s.digest) ≡ LAYOUT
  pub fields : (s : Super) → SuperFits s → super_of (super_bytes s.geometry s.digest) ≡ s
