-- Laws of the journal (this project's own).
use Rattle.std.specs.Prelude.{◌≡◌, ◌↔◌, ℕ, List, []}
use Rattle.std.specs.List.{AllByRecursion}
use Rattle.guest_memory.specs.rules.Bytes.{IsByte}
use Rattle.wasi_abi.specs.declared.version.Version.{Version}
use Rattle.sector_disk.specs.rules.DiskImage.{DiskImage, sector_at}
use Rattle.disk_layout.specs.rules.Places.{Geometry}
use Rattle.disk_layout.specs.rules.Journal.{Record}
use Rattle.disk_layout.specs.Scanned.{scan}
use Rattle.journal.specs.rules.Steps.{HoldsRecords, JournalHolds, AllRecordsFit, ShowsEarlierThan}

-- a journal of a generation that no sector shows has no records yet
abbrev pub FreshHoldsNone : Type 0
FreshHoldsNone = (geometry : Geometry) (v : Version) (g : ℕ) (image : DiskImage)
    → ShowsEarlierThan geometry g image → HoldsRecords geometry v g 0 [] image

-- the journal holds the records that are stored in its sectors
abbrev pub HoldsWhatIsStored : Type 0
HoldsWhatIsStored = (geometry : Geometry) (v : Version) (g used : ℕ) (records : List Record)
    (image : DiskImage) → HoldsRecords geometry v g used records image → AllRecordsFit v records
    → JournalHolds geometry v g records image

-- and none of a generation that no sector shows
abbrev pub HoldsNoneOfLater : Type 0
HoldsNoneOfLater = (geometry : Geometry) (v : Version) (g : ℕ) (image : DiskImage)
    → ShowsEarlierThan geometry g image → JournalHolds geometry v g [] image

-- it holds one list of records and no other
abbrev pub HoldsOneList : Type 0
HoldsOneList = (geometry : Geometry) (v : Version) (g : ℕ) (records others : List Record)
    (image : DiskImage) → JournalHolds geometry v g records image
    → JournalHolds geometry v g others image → records ≡ others

-- Of an image of bytes a scan, sector by sector and record by record, gives that list: so each
-- image holds one.
abbrev pub ScansWhatIsHeld : Type 0
ScansWhatIsHeld = (geometry : Geometry) (v : Version) (g : ℕ) (records : List Record)
    (image : DiskImage) → ((k : ℕ) → AllByRecursion IsByte (sector_at image k))
    → JournalHolds geometry v g records image ↔ (scan geometry v image g ≡ records)
