-- What a super leads to: the configuration and the module after it (this project's own).
use Rattle.std.specs.Prelude.{◌≡◌, ◌≢◌, ℕ, ◌+◌, ◌<◌, ◌≤◌, List, ◌++◌, length, take, Result, Ok, Err}
use Rattle.sha2.specs.Sha256.{sha256}
use Rattle.sector_disk.specs.rules.DiskImage.{DiskImage, sector_at}
use Rattle.sector_disk.specs.rules.Medium.{Medium, Stays, LeavesOnly, CountsUpTo}
use Rattle.disk_layout.specs.declared.fault.LayoutFault.{LayoutFault}
use Rattle.disk_layout.specs.declared.fault.LayoutFault.TheVariants.{NotAWorker, Version, TooSmall}
use Rattle.disk_layout.specs.declared.fault.LayoutFault.TheVariants.{Damaged, Memory, Disk}
use Rattle.disk_layout.specs.declared.damage.Damage.TheVariants.{ModuleSectors, ContentsDigest}
use Rattle.disk_layout.specs.declared.stored.Stored.{Stored}
use Rattle.disk_layout.specs.rules.Places.{Geometry, rounded_up}
use Rattle.disk_layout.specs.rules.Sectors.{bytes_from, SectorsHold, Super, IsMarked, HasMarks}
use Rattle.disk_layout.specs.rules.Sectors.{super_of, super_layout}
use Rattle.disk_layout.specs.declared.geometry.TheConstants.{MODULE_PLACE}
use Rattle.disk_layout.specs.declared.superblock.TheConstants.{LAYOUT}

-- reads alone: the disk shows and may leave no more than before, at no moment were there more
-- unsynced writes, and it is asked for no write and no sync
pub record OnlyReads (old new : Medium) : Type 0 where
  pub stays : Stays old new
  pub leaves : LeavesOnly old new old.crash_images
  pub unsynced : new.unsynced ≡ old.unsynced
  pub counts : CountsUpTo old.unsynced old new
  pub calls : new.calls ≡ old.calls

-- the marks are there, and the layout is the one that is known
pub record IsKnown (sector : List ℕ) : Type 0 where
  pub marks : IsMarked sector
  pub layout : super_layout sector ≡ LAYOUT

-- what is read of a super's sector
abbrev pub ReadsSuper : List ℕ → Result Super LayoutFault → Type 0
ReadsSuper sector (Ok s) = IsKnown sector × (s ≡ super_of sector)
ReadsSuper sector (Err NotAWorker) = IsMarked sector → ⊥
ReadsSuper sector (Err Version) = IsMarked sector × (super_layout sector ≢ LAYOUT)
ReadsSuper sector (Err other) = ⊥

-- configuration and module take as many sectors as the super says
abbrev pub IsConsistent : Geometry → Type 0
IsConsistent g = g.module_sectors ≡ rounded_up (g.config + g.wasm)

-- what a super's sector says on a disk of so many sectors. Each fault names a cause that is there
abbrev pub Checks : ℕ → List ℕ → Result Super LayoutFault → Type 0
Checks sectors sector (Ok s) = IsKnown sector × (s ≡ super_of sector) × IsConsistent s.geometry
    × (MODULE_PLACE + s.geometry.module_sectors ≤ sectors)
Checks sectors sector (Err NotAWorker) = IsMarked sector → ⊥
Checks sectors sector (Err Version) = IsMarked sector × (super_layout sector ≢ LAYOUT)
Checks sectors sector (Err (Damaged ModuleSectors)) =
    IsKnown sector × (IsConsistent (super_of sector).geometry → ⊥)
Checks sectors sector (Err TooSmall) = IsKnown sector × IsConsistent (super_of sector).geometry
    × (sectors < MODULE_PLACE + (super_of sector).geometry.module_sectors)
Checks sectors sector (Err other) = ⊥

-- configuration and module have the lengths and take the sectors that their super says
pub record HasItsLengths (s : Stored) : Type 0 where
  pub config : length s.config ≡ s.geometry.config
  pub wasm : length s.wasm ≡ s.geometry.wasm
  pub consistent : IsConsistent s.geometry

-- on a disk of so many sectors configuration and module are where the super says, and their
-- digest is the super's
pub record IsStored (sectors : ℕ) (image : DiskImage) (s : Stored) : Type 0 where
  pub known : IsKnown (sector_at image 0)
  pub geometry : s.geometry ≡ (super_of (sector_at image 0)).geometry
  pub consistent : IsConsistent s.geometry
  pub room : MODULE_PLACE + s.geometry.module_sectors ≤ sectors
  pub config : length s.config ≡ s.geometry.config
  pub wasm : length s.wasm ≡ s.geometry.wasm
  pub contents : SectorsHold image MODULE_PLACE s.geometry.module_sectors (s.config ++ s.wasm)
  pub digest : (super_of (sector_at image 0)).digest ≡ sha256 (s.config ++ s.wasm)

-- the super says where they are, and they have another digest
pub record HasOtherDigest (sectors : ℕ) (image : DiskImage) (s : Super) : Type 0 where
  pub says : Checks sectors (sector_at image 0) (Ok s)
  pub digest : s.digest
      ≢ sha256 (take (s.geometry.config + s.geometry.wasm)
      (bytes_from image MODULE_PLACE s.geometry.module_sectors))

-- what is found on a disk of so many sectors. Where a fault names a cause of the disk's content, it
-- is there.
abbrev pub FindsStored : ℕ → DiskImage → Result Stored LayoutFault → Type 0
FindsStored sectors image (Ok s) = IsStored sectors image s
FindsStored sectors image (Err NotAWorker) = HasMarks image → ⊥
FindsStored sectors image (Err Version) =
    HasMarks image × (super_layout (sector_at image 0) ≢ LAYOUT)
FindsStored sectors image (Err TooSmall) = Checks sectors (sector_at image 0) (Err TooSmall)
FindsStored sectors image (Err (Damaged ModuleSectors)) =
    Checks sectors (sector_at image 0) (Err (Damaged ModuleSectors))
FindsStored sectors image (Err (Damaged ContentsDigest)) =
    HasOtherDigest sectors image (super_of (sector_at image 0))
FindsStored sectors image (Err (Damaged other)) = ⊥
FindsStored sectors image (Err Memory) = Unit {0}
FindsStored sectors image (Err (Disk fault)) = Unit {0}
