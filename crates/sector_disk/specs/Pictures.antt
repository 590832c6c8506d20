-- Sectors that are read again.
use Rattle.std.specs.Prelude.{◌≡◌, ◌≢◌, ◌<◌, ◌++◌, ◌∷◌, ℕ, Bool, true, false, List, length}
use Rattle.sector_disk.specs.declared.file_call.FileCall.TheVariants.{Read}
use Rattle.sector_disk.specs.rules.Answered.{AnsweredCalls}
use Rattle.sector_disk.specs.rules.DiskImage.{DiskImage, sector_at}
use Rattle.sector_disk.specs.rules.Pictures.{reads_of}

-- Read again, all of these sectors gave the same; or those before one did, and that one gave other
-- bytes.
abbrev pub GivesAgain : Bool → DiskImage → AnsweredCalls → AnsweredCalls → Type 0
GivesAgain true image old new = new ≡ reads_of (length image) image ++ old
GivesAgain false image old new = (k : ℕ) × (bytes : List ℕ) × (k < length image)
    × (bytes ≢ sector_at image k) × (new ≡ (Read k, bytes) ∷ reads_of k image ++ old)
