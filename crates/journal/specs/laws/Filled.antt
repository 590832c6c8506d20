-- Which sectors of the journal are filled (this project's own).
use Rattle.std.specs.Prelude.{◌≡◌, ℕ, List}
use Rattle.wasi_abi.specs.declared.version.Version.{Version}
use Rattle.sector_disk.specs.rules.DiskImage.{DiskImage}
use Rattle.disk_layout.specs.rules.Places.{Geometry}
use Rattle.disk_layout.specs.rules.Journal.{Record}
use Rattle.journal.specs.rules.Filled.{sectors_filled}
use Rattle.journal.specs.rules.Steps.{HoldsRecords, JournalHolds}

-- where records are stored in so many sectors, as many are filled
abbrev pub FillsWhatIsStored : Type 0
FillsWhatIsStored = (geometry : Geometry) (v : Version) (g used : ℕ) (records : List Record)
    (image : DiskImage) → HoldsRecords geometry v g used records image
    → sectors_filled geometry image g ≡ used

-- so are the sectors of what the journal holds
abbrev pub FillsWhatIsHeld : Type 0
FillsWhatIsHeld = (geometry : Geometry) (v : Version) (g : ℕ) (records : List Record)
    (image : DiskImage) → (holds : JournalHolds geometry v g records image)
    → sectors_filled geometry image g ≡ holds.used
