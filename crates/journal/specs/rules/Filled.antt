-- How many sectors of the journal the records of a generation fill (this project's own).
use Rattle.std.specs.Prelude.{ℕ, zero, suc, ◌+◌, if◌then◌else◌}
use Rattle.sector_disk.specs.rules.DiskImage.{DiskImage, sector_at}
use Rattle.disk_layout.specs.rules.Places.{Geometry, journal_place}
use Rattle.disk_layout.specs.rules.Journal.{is_of}

-- how many sectors from this one on, whose places are counted from this one, are of generation g
-- without a gap; so many at most
abbrev pub filled_from : DiskImage → ℕ → ℕ → ℕ → ℕ → ℕ
filled_from image g sector place zero = 0
filled_from image g sector place (suc count) =
    if is_of g place (sector_at image sector)
    then suc (filled_from image g (sector + 1) (place + 1) count)
    else 0

-- how many sectors of the journal the records of generation g fill, from the first one on
abbrev pub sectors_filled : Geometry → DiskImage → ℕ → ℕ
sectors_filled geometry image g =
    filled_from image g (journal_place geometry) 1 geometry.journal_sectors
