-- What writes that no sync has made durable make of an image. The oldest is the first.
use Rattle.std.specs.Prelude.{◌≡◌, ◌<◌, ◌≤◌, ◌⊎◌, ℕ, min, List, [], ◌∷◌, length, drop, Vec}
use Rattle.std.specs.declared.alloc.Global.{Global}
use Rattle.sector_disk.specs.rules.DiskImage.{DiskImage, with_sector, with_front}
use Rattle.sector_disk.specs.declared.write.Write.{Write}
use Rattle.sector_disk.specs.declared.sector.TheConstants.{SECTOR_SIZE}

-- a write to one of so many sectors
pub record IsWriteWithin (sectors : ℕ) (write : Write) : Type 0 where
  pub within : write.sector < sectors
  pub full : length write.bytes ≡ SECTOR_SIZE

-- what a cut may leave: of each write some prefix, over what the earlier ones left
abbrev pub Leaves : List Write → DiskImage → DiskImage → Type 0
Leaves [] from image = image ≡ from
Leaves (write ∷ writes) from image = (front : ℕ) × (front ≤ SECTOR_SIZE)
    × Leaves writes (with_front from write.sector front write.bytes) image

-- all of them, whole
abbrev pub replayed : List Write → DiskImage → DiskImage
replayed [] from = from
replayed (write ∷ writes) from = replayed writes (with_sector from write.sector write.bytes)

-- the front that the first of these numbers names: a missing one, or a larger one, names the whole
-- write
abbrev pub first_front : List ℕ → ℕ
first_front [] = SECTOR_SIZE
first_front (tear ∷ tears) = min tear SECTOR_SIZE

-- of each write the front that its number names
abbrev pub torn_by : List ℕ → List Write → DiskImage → DiskImage
torn_by tears [] from = from
torn_by tears (write ∷ writes) from =
    torn_by (drop 1 tears) writes (with_front from write.sector (first_front tears) write.bytes)

-- what a cut may have left at a moment from t on; of each moment the durable sectors and the writes
-- since, the newest first
abbrev pub HadCrashImage : ℕ → List (Vec (List ℕ) Global × Vec Write Global) → DiskImage → Type 0
HadCrashImage t [] image = ⊥
HadCrashImage t (moment ∷ earlier) image =
    ((t ≤ length earlier) × Leaves moment.1.items moment.0.items image)
    ⊎ HadCrashImage t earlier image
