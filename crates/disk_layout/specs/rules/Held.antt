-- Configuration and module that a disk holds, whole (this project's own).
use Rattle.std.specs.Prelude.{◌≡◌, ◌≢◌, ◌⊎◌, ℕ, ◌+◌, ◌<◌, ◌≤◌, List, ◌++◌, length, take, Result}
use Rattle.std.specs.Prelude.{Ok, Err}
use Rattle.sha2.specs.Sha256.{sha256}
use Rattle.sector_disk.specs.rules.DiskImage.{DiskImage, sector_at}
use Rattle.wasi_abi.specs.rules.Configs.{Settings, AreSettingsWithinLimits}
use Rattle.disk_layout.specs.declared.fault.LayoutFault.{LayoutFault}
use Rattle.disk_layout.specs.declared.fault.LayoutFault.TheVariants.{NotAWorker, Version, TooSmall}
use Rattle.disk_layout.specs.declared.fault.LayoutFault.TheVariants.{Damaged, Memory, Disk}
use Rattle.disk_layout.specs.declared.damage.Damage.{Damage}
use Rattle.disk_layout.specs.declared.damage.Damage.TheVariants as damage
use Rattle.disk_layout.specs.declared.stored.Stored.{Stored}
use Rattle.disk_layout.specs.rules.Places.{Geometry, geometry_of, config_bytes, total_sectors}
use Rattle.disk_layout.specs.rules.Sectors.{bytes_from, SectorsHold, HasMarks, super_of}
use Rattle.disk_layout.specs.rules.Sectors.{super_layout}
use Rattle.disk_layout.specs.rules.Stored.{IsKnown, Checks, HasOtherDigest}
use Rattle.disk_layout.specs.declared.reading.contents.Contents.{Contents}
use Rattle.disk_layout.specs.declared.geometry.TheConstants.{MODULE_PLACE}
use Rattle.disk_layout.specs.declared.superblock.TheConstants.{LAYOUT}

-- The super is known, and its numbers and its digest are those of this configuration and this
-- module. Their bytes are after the heads.
pub record IsHeld (image : DiskImage) (c : Contents) : Type 0 where
  pub known : IsKnown (sector_at image 0)
  pub within : AreSettingsWithinLimits c.config
  pub geometry : c.geometry ≡ geometry_of c.config (length c.wasm)
  pub fields : super_of (sector_at image 0) ≡ record {
    geometry = c.geometry;
    digest = sha256 (config_bytes c.config ++ c.wasm);
  }
  pub contents : SectorsHold image MODULE_PLACE c.geometry.module_sectors (config_bytes c.config
      ++ c.wasm)

-- the super is known, its lengths and sectors agree, and the disk reaches as far as the module
abbrev pub ReachesContents : ℕ → DiskImage → Type 0
ReachesContents sectors image =
    Checks sectors (sector_at image 0) (Ok (super_of (sector_at image 0)))

-- what the super calls configuration and module: the first bytes after the heads
abbrev pub contents_bytes : DiskImage → List ℕ
contents_bytes image =
    let g = (super_of (sector_at image 0)).geometry in
    take (g.config + g.wasm) (bytes_from image MODULE_PLACE g.module_sectors)

-- they are there, and have the super's digest
pub record HasContents (sectors : ℕ) (image : DiskImage) : Type 0 where
  pub reaches : ReachesContents sectors image
  pub digest : (super_of (sector_at image 0)).digest ≡ sha256 (contents_bytes image)

-- it is so, and as many of them as the super says are the bytes of this configuration
pub record HasSettings (sectors : ℕ) (image : DiskImage) (s : Settings) : Type 0 where
  pub whole : HasContents sectors image
  pub within : AreSettingsWithinLimits s
  pub spelled : take (super_of (sector_at image 0)).geometry.config (contents_bytes image)
      ≡ config_bytes s

-- an area has as many sectors as this configuration says
abbrev pub HasAreasOf : Geometry → Settings → Type 0
HasAreasOf g s = g.area_sectors ≡ (geometry_of s g.wasm).area_sectors

-- and so has the journal
abbrev pub HasJournalOf : Geometry → Settings → Type 0
HasJournalOf g s = g.journal_sectors ≡ (geometry_of s g.wasm).journal_sectors

-- The first thing that disagrees. All that is judged before it is right: the marks and the layout,
-- then the sectors of configuration and module, their digest, the configuration, the sectors of an
-- area, and those of the journal.
abbrev pub HasDamage : ℕ → DiskImage → Damage → Type 0
HasDamage sectors image damage.ModuleSectors =
    Checks sectors (sector_at image 0) (Err (Damaged damage.ModuleSectors))
HasDamage sectors image damage.ContentsDigest =
    HasOtherDigest sectors image (super_of (sector_at image 0))
HasDamage sectors image damage.Configuration =
    HasContents sectors image × ((s : Settings) → HasSettings sectors image s → ⊥)
HasDamage sectors image damage.AreaSectors =
    (s : Settings) × HasSettings sectors image s
    × (HasAreasOf (super_of (sector_at image 0)).geometry s → ⊥)
HasDamage sectors image damage.JournalSectors =
    (s : Settings) × HasSettings sectors image s
    × HasAreasOf (super_of (sector_at image 0)).geometry s
    × (HasJournalOf (super_of (sector_at image 0)).geometry s → ⊥)
HasDamage sectors image other = ⊥

-- The answer of a disk of so many sectors that shows this image. Apart from out of memory and
-- faults of the disk, no other one is right.
abbrev pub GivesContents : ℕ → DiskImage → Result Contents LayoutFault → Type 0
GivesContents sectors image (Ok c) = IsHeld image c × (total_sectors c.geometry ≤ sectors)
GivesContents sectors image (Err NotAWorker) = HasMarks image → ⊥
GivesContents sectors image (Err Version) =
    HasMarks image × (super_layout (sector_at image 0) ≢ LAYOUT)
GivesContents sectors image (Err (Damaged why)) = HasDamage sectors image why
GivesContents sectors image (Err TooSmall) = Checks sectors (sector_at image 0) (Err TooSmall)
    ⊎ (ReachesContents sectors image × ((c : Contents) × IsHeld image c
    × (sectors < total_sectors c.geometry)))
GivesContents sectors image (Err Memory) = Unit {0}
GivesContents sectors image (Err (Disk fault)) = Unit {0}

-- the stored configuration is this one
pub record SpellsSettings (stored : Stored) (s : Settings) : Type 0 where
  pub within : AreSettingsWithinLimits s
  pub spelled : stored.config ≡ config_bytes s

-- the stored bytes are those of this configuration, and the super's numbers too
pub record IsStoredOf (stored : Stored) (s : Settings) : Type 0 where
  pub within : AreSettingsWithinLimits s
  pub spelled : stored.config ≡ config_bytes s
  pub geometry : stored.geometry ≡ geometry_of s stored.geometry.wasm
