-- The image that the newest head names, as far as it is there (this project's own).
use Rattle.std.specs.Prelude.{◌≡◌, ℕ, List, length, Option, Some, None, Result, Ok, Err}
use Rattle.sha2.specs.Sha256.{sha256}
use Rattle.sector_disk.specs.rules.DiskImage.{DiskImage}
use Rattle.disk_layout.specs.declared.geometry.Geometry.{Geometry}
use Rattle.disk_layout.specs.declared.head.Head.{Head}
use Rattle.disk_layout.specs.rules.Places.{area_place}
use Rattle.disk_layout.specs.rules.Sectors.{SectorsHold, IsNewest, HoldsProcessImage}
use Rattle.snapshot.specs.rules.Heads.{HasNone}
use Rattle.snapshot.specs.declared.fault.SnapshotFault.{SnapshotFault}
use Rattle.snapshot.specs.declared.fault.SnapshotFault.TheVariants.{TooBig, Damaged, Disk, Memory}
use Rattle.snapshot.specs.declared.fault.SnapshotFault.TheVariants.{Failed}
use Rattle.snapshot.specs.declared.newest.Snapshot.{Snapshot}

-- the area of a head's generation begins with as many bytes as the head says, and they have its
-- digest
pub record NamesBytes (geometry : Geometry) (image : DiskImage) (h : Head) (bytes : List ℕ) :
    Type 0 where
  pub len : h.length_in_bytes ≡ length bytes
  pub digest : h.digest ≡ sha256 bytes
  pub area : SectorsHold image (area_place geometry h.generation) geometry.area_sectors bytes

-- the newest complete head names no bytes that are there
pub record IsDamaged (geometry : Geometry) (image : DiskImage) : Type 0 where
  pub generation : ℕ
  pub head : Head
  pub newest : IsNewest image generation head
  pub other : (bytes : List ℕ) → NamesBytes geometry image head bytes → ⊥

-- what is read of a head's image
abbrev pub ReadsProcessImage : Geometry → DiskImage → Head → Result (List ℕ) SnapshotFault → Type 0
ReadsProcessImage geometry image h (Ok bytes) = NamesBytes geometry image h bytes
ReadsProcessImage geometry image h (Err Damaged) = (bytes : List ℕ)
    → NamesBytes geometry image h bytes → ⊥
ReadsProcessImage geometry image h (Err TooBig) = ⊥
ReadsProcessImage geometry image h (Err Failed) = Unit {0}
ReadsProcessImage geometry image h (Err Memory) = Unit {0}
ReadsProcessImage geometry image h (Err (Disk fault)) = Unit {0}

-- What is found on a disk: no complete head, or the newest one with the image that it names. Or the
-- newest one names an image that isn't there.
abbrev pub FindsNewest : Geometry → DiskImage → Result (Option Snapshot) SnapshotFault → Type 0
FindsNewest geometry image (Ok None) = HasNone image
FindsNewest geometry image (Ok (Some s)) =
    HoldsProcessImage geometry image s.generation s.version s.process_image
FindsNewest geometry image (Err Damaged) = IsDamaged geometry image
FindsNewest geometry image (Err TooBig) = ⊥
FindsNewest geometry image (Err Failed) = Unit {0}
FindsNewest geometry image (Err Memory) = Unit {0}
FindsNewest geometry image (Err (Disk fault)) = Unit {0}
