-- The newest of the two heads of an image (this project's own).
use Rattle.std.specs.Prelude.{◌≡◌, ◌⊎◌, ℕ, ◌-◌, ◌<◌, max, Option, Some, None}
use Rattle.sector_disk.specs.rules.DiskImage.{DiskImage, sector_at}
use Rattle.disk_layout.specs.declared.head.Head.{Head}
use Rattle.disk_layout.specs.rules.Sectors.{IsComplete, IsNewest, shown_generation}
use Rattle.disk_layout.specs.declared.head.TheConstants.{HEAD_STAMP_PLACE}

-- neither head is complete
pub record HasNone (image : DiskImage) : Type 0 where
  pub first : IsComplete 0 (sector_at image 1) → ⊥
  pub second : IsComplete 1 (sector_at image 2) → ⊥

-- the latest generation that a head's sector shows
abbrev pub heads_to : DiskImage → ℕ
heads_to image =
    max (shown_generation HEAD_STAMP_PLACE (sector_at image 1)) (shown_generation HEAD_STAMP_PLACE
    (sector_at image 2))

-- The newest complete head is of the generation before this one (before the first there is none).
-- No head's sector shows this one or a later one.
pub record IsReadyForHead (g : ℕ) (image : DiskImage) : Type 0 where
  pub before : ((g ≡ 1) × HasNone image) ⊎ ((h : Head) × IsNewest image (g - 1) h)
  pub none_later : heads_to image < g

-- ---- what is read

-- the newest complete head of an image, or none
abbrev pub FindsHead : DiskImage → Option Head → Type 0
FindsHead image None = HasNone image
FindsHead image (Some h) = IsNewest image h.generation h
