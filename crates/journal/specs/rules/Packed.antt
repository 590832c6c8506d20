-- Bytes packed without gaps into sectors of a journal (this project's own).
use Rattle.std.specs.Prelude.{ℕ, zero, suc, ◌+◌, ◌-◌, ◌/◌, List, [], ◌∷◌, take, drop}
use Rattle.sector_disk.specs.rules.DiskImage.{DiskImage}
use Rattle.disk_layout.specs.rules.Journal.{journal_sector}
use Rattle.disk_layout.specs.declared.journal_sectors.TheConstants.{PAYLOAD_SIZE}

-- how many sectors so many bytes take
abbrev pub sectors_for : ℕ → ℕ
sectors_for bytes = (bytes + (PAYLOAD_SIZE - 1)) / PAYLOAD_SIZE

-- so many sectors of generation g, the first of them at this place
abbrev pub packed : ℕ → ℕ → ℕ → List ℕ → DiskImage
packed g place zero bytes = []
packed g place (suc n) bytes =
    journal_sector g place (take PAYLOAD_SIZE bytes)
    ∷ packed g (place + 1) n (drop PAYLOAD_SIZE bytes)
