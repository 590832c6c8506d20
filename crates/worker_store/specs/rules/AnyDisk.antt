-- What is read of any disk, whatever is there (this project's own). Want of memory and a fault of
-- the disk may come in its place.
use Rattle.std.specs.Prelude.{◌≡◌, ◌≢◌, ◌⊎◌, ℕ, ◌%◌, List, Vec, Result, Ok, Err}
use Rattle.std.specs.declared.alloc.Global.{Global}
use Rattle.sector_disk.specs.rules.DiskImage.{DiskImage}
use Rattle.disk_layout.specs.declared.damage.Damage.TheVariants as damage
use Rattle.disk_layout.specs.declared.fault.LayoutFault.TheVariants as layout
use Rattle.disk_layout.specs.declared.geometry.Geometry.{Geometry}
use Rattle.disk_layout.specs.declared.head.Head.{Head}
use Rattle.wasi_abi.specs.rules.Versions.{version_number}
use Rattle.disk_layout.specs.declared.reading.contents.Contents.{Contents}
use Rattle.disk_layout.specs.rules.Held.{GivesContents}
use Rattle.wasi_abi.specs.declared.version.Version.{Version}
use Rattle.disk_layout.specs.rules.Journal.{Record, TakesRecords}
use Rattle.disk_layout.specs.rules.Sectors.{IsNewest, HoldsProcessImage}
use Rattle.journal.specs.declared.fault.JournalFault.TheVariants as journal
use Rattle.journal.specs.rules.Steps.{JournalHolds, ShowsLater}
use Rattle.snapshot.specs.declared.fault.SnapshotFault.TheVariants as snapshot
use Rattle.state_image.specs.rules.ProcessImage.{IsMarkedOtherwise}
use Rattle.snapshot.specs.rules.Heads.{HasNone}
use Rattle.snapshot.specs.rules.Newest.{NamesBytes}
use Rattle.worker_store.specs.declared.newest.NewestProcessImage.{NewestProcessImage}
use Rattle.worker_store.specs.declared.read_fault.ReadFault.{ReadFault}
use Rattle.worker_store.specs.declared.read_fault.ReadFault.TheVariants as read

-- Configuration and module are those that the image holds; or what is wrong with them is told.
abbrev pub TellsContents : ℕ → DiskImage → Result Contents ReadFault → Type 0
TellsContents sectors disk (Ok found) = GivesContents sectors disk (Ok found)
TellsContents sectors disk (Err (read.Layout (layout.Disk fault))) = ⊥
TellsContents sectors disk (Err (read.Layout fault)) = GivesContents sectors disk (Err fault)
TellsContents sectors disk (Err (read.Disk fault)) = Unit {0}
TellsContents sectors disk (Err other) = ⊥

-- the newest complete head is of no known version
pub record HasOtherVersion (disk : DiskImage) : Type 0 where
  pub head : Head
  pub newest : IsNewest disk head.generation head
  pub other : (v : Version) → head.version ≢ version_number v

-- it names this one
pub record NamesVersion (v : Version) (disk : DiskImage) (head : Head) : Type 0 where
  pub newest : IsNewest disk head.generation head
  pub known : head.version ≡ version_number v

-- it is of a version whose longest record the journal doesn't take
pub record HasShortJournal (geometry : Geometry) (disk : DiskImage) : Type 0 where
  pub version : Version
  pub head : Head
  pub is : NamesVersion version disk head
  pub short : TakesRecords version geometry.journal_sectors → ⊥

-- it is of one whose longest record the journal takes
pub record HasKnownVersion (geometry : Geometry) (disk : DiskImage) : Type 0 where
  pub version : Version
  pub head : Head
  pub is : NamesVersion version disk head
  pub room : TakesRecords version geometry.journal_sectors

-- it is so, and names no bytes that are there
pub record LacksItsProcessImage (geometry : Geometry) (disk : DiskImage) : Type 0 where
  pub version : Version
  pub head : Head
  pub is : NamesVersion version disk head
  pub room : TakesRecords version geometry.journal_sectors
  pub lacks : (bytes : List ℕ) → NamesBytes geometry disk head bytes → ⊥

-- it is so, and these bytes are there, whole
pub record NamesProcessImage (geometry : Geometry) (disk : DiskImage) (generation : ℕ)
    (version : Version) (bytes : List ℕ) : Type 0 where
  pub holds : HoldsProcessImage geometry disk generation (version_number version) bytes
  pub room : TakesRecords version geometry.journal_sectors

-- they are in this area, and begin with the mark of another version
pub record HasOtherMark (geometry : Geometry) (disk : DiskImage) (area : ℕ) : Type 0 where
  pub generation : ℕ
  pub here : area ≡ generation % 2
  pub version : Version
  pub bytes : List ℕ
  pub named : NamesProcessImage geometry disk generation version bytes
  pub other : IsMarkedOtherwise version bytes

-- The image is what the newest head names, and is marked as of no other version than that of the
-- head. Or what is wrong is told, in this order: the head, its version, the journal for it, whether
-- the image is there, and the image's mark. Memory is wanted only for the image.
abbrev pub TellsNewest : Geometry → DiskImage → Result NewestProcessImage ReadFault → Type 0
TellsNewest geometry disk (Ok found) =
    NamesProcessImage geometry disk found.generation found.version found.process_image
    × (IsMarkedOtherwise found.version found.process_image → ⊥)
TellsNewest geometry disk (Err (read.Layout layout.Version)) = HasOtherVersion disk
TellsNewest geometry disk (Err (read.Layout (layout.Damaged damage.ShortJournal))) =
    HasShortJournal geometry disk
TellsNewest geometry disk (Err (read.Layout (layout.Damaged (damage.OtherMark area)))) =
    HasOtherMark geometry disk area
TellsNewest geometry disk (Err (read.Snapshot snapshot.Damaged)) =
    HasNone disk ⊎ LacksItsProcessImage geometry disk
TellsNewest geometry disk (Err (read.Snapshot snapshot.Memory)) = HasKnownVersion geometry disk
TellsNewest geometry disk (Err (read.Disk fault)) = Unit {0}
TellsNewest geometry disk (Err other) = ⊥

-- The records are those of this version that are there. Or the first sector of the journal shows a
-- later generation than theirs. Nothing else is told then: it comes before memory is wanted.
abbrev pub TellsRecords : Geometry → Version → ℕ → DiskImage → Result (Vec Record Global) ReadFault
    → Type 0
TellsRecords geometry version generation disk (Ok found) =
    JournalHolds geometry version generation found.items disk
    × (ShowsLater geometry generation disk → ⊥)
TellsRecords geometry version generation disk
    (Err (read.Layout (layout.Damaged damage.LaterGeneration))) =
    ShowsLater geometry generation disk
TellsRecords geometry version generation disk (Err (read.Journal journal.Memory)) =
    ShowsLater geometry generation disk → ⊥
TellsRecords geometry version generation disk (Err (read.Disk fault)) = Unit {0}
TellsRecords geometry version generation disk (Err other) = ⊥
