-- What the sectors of a journal hold, and how a barrier changes it (this project's own).
use Rattle.std.specs.Prelude.{◌≡◌, ℕ, zero, suc, ◌+◌, ◌^◌, ◌<◌, ◌≤◌, true, List, [], ◌++◌, length}
use Rattle.std.specs.Prelude.{take, drop, false}
use Rattle.std.specs.List.{AllByRecursion, flat_map}
use Rattle.sector_disk.specs.rules.DiskImage.{DiskImage, sector_at}
use Rattle.sector_disk.specs.rules.Calls.{synced_writes}
use Rattle.sector_disk.specs.declared.disk_call.DiskCall.{DiskCall}
use Rattle.disk_layout.specs.rules.Places.{Geometry, journal_place}
use Rattle.disk_layout.specs.rules.Sectors.{shown_generation}
use Rattle.disk_layout.specs.rules.Journal.{Record, record_bytes, payload_of, is_of}
use Rattle.disk_layout.specs.rules.Journal.{payload_of_sector}
use Rattle.wasi_abi.specs.declared.answer.Answer.{Answer}
use Rattle.wasi_abi.specs.declared.answer.Answer.TheVariants as answer
use Rattle.wasi_abi.specs.declared.version.Version.{Version}
use Rattle.wasi_abi.specs.rules.Versions.{text_limit}
use Rattle.journal.specs.rules.Packed.{sectors_for}
use Rattle.journal.specs.rules.State.{JournalState}

-- a clock's value has room in 64 bits
abbrev pub ClockFits : Answer → Type 0
ClockFits (answer.Request text) = Unit {0}
ClockFits answer.End = Unit {0}
ClockFits (answer.Realtime n) = n < 2 ^ 64
ClockFits (answer.Monotonic n) = n < 2 ^ 64
ClockFits (answer.Random bytes) = Unit {0}

-- a record that a journal of this version takes
pub record RecordFits (v : Version) (r : Record) : Type 0 where
  pub step : r.step < 2 ^ 64
  pub payload : length (payload_of r.answer) ≤ text_limit v
  pub clock : ClockFits r.answer

-- each of these records fits
abbrev pub AllRecordsFit : Version → List Record → Type 0
AllRecordsFit v records = AllByRecursion (RecordFits v) records

-- the bytes of records, one after another
abbrev pub records_bytes : Version → List Record → List ℕ
records_bytes v records = flat_map (record_bytes v) records

-- The first so many sectors of the journal are of generation g, each at its place, and their
-- payloads, joined, are these bytes.
pub record HoldsBytes (geometry : Geometry) (g used : ℕ) (bytes : List ℕ) (image : DiskImage) :
    Type 0 where
  pub within : used ≤ geometry.journal_sectors
  pub written : (k : ℕ) → k < used → is_of g (1 + k) (sector_at image (journal_place geometry + k))
      ≡ true
  pub joined : flat_map payload_of_sector (take used (drop (journal_place geometry) image)) ≡ bytes

-- So many sectors hold the bytes of these records, one after another, and nothing else. Each later
-- sector shows an earlier generation.
pub record HoldsRecords (geometry : Geometry) (v : Version) (g used : ℕ) (records : List Record)
    (image : DiskImage) : Type 0 where
  pub holds_bytes : HoldsBytes geometry g used (records_bytes v records) image
  pub clean : (k : ℕ) → used ≤ k → k < geometry.journal_sectors
      → shown_generation (1 + k) (sector_at image (journal_place geometry + k)) < g

-- the bytes of a record are at the front
pub record BeginsWithRecord (v : Version) (bytes : List ℕ) : Type 0 where
  pub first : Record
  pub fits : RecordFits v first
  pub others : List ℕ
  pub spelled : bytes ≡ record_bytes v first ++ others

-- These bytes are those of the records, one after another, and then a rest that begins with no
-- record: it is empty, or cut, or of no kind or length of one.
pub record SpellsRecords (v : Version) (records : List Record) (bytes : List ℕ) : Type 0 where
  pub rest : List ℕ
  pub spelled : bytes ≡ records_bytes v records ++ rest
  pub fit : AllRecordsFit v records
  pub no_record : BeginsWithRecord v rest → ⊥

-- What the journal of any disk image holds in generation g: these records. So many of its sectors,
-- from the first one on, are of this generation, each at its place, and the next one, if there is
-- one, isn't. Their payloads, joined, spell the records.
pub record JournalHolds (geometry : Geometry) (v : Version) (g : ℕ) (records : List Record)
    (image : DiskImage) : Type 0 where
  pub used : ℕ
  pub bytes : List ℕ
  pub holds_bytes : HoldsBytes geometry g used bytes image
  pub ends : used < geometry.journal_sectors
      → is_of g (1 + used) (sector_at image (journal_place geometry + used)) ≡ false
  pub spells : SpellsRecords v records bytes

-- all sectors but those of the journal from this one on are as they were
pub record SameOthers (geometry : Geometry) (used : ℕ) (old new : DiskImage) : Type 0 where
  pub count : length new ≡ length old
  pub below : (k : ℕ) → k < journal_place geometry + used → sector_at new k ≡ sector_at old k
  pub above : (k : ℕ) → journal_place geometry + geometry.journal_sectors ≤ k
      → sector_at new k ≡ sector_at old k

-- no sector of the journal shows a later generation
abbrev pub ShowsNoneAfter : Geometry → ℕ → DiskImage → Type 0
ShowsNoneAfter geometry g image = (k : ℕ) → k < geometry.journal_sectors
    → shown_generation (1 + k) (sector_at image (journal_place geometry + k)) ≤ g

-- each sector of the journal shows an earlier generation
abbrev pub ShowsEarlierThan : Geometry → ℕ → DiskImage → Type 0
ShowsEarlierThan geometry g image = (k : ℕ) → k < geometry.journal_sectors
    → shown_generation (1 + k) (sector_at image (journal_place geometry + k)) < g

-- The journal has a sector, and the first one shows a later generation at its place, which is 1.
pub record ShowsLater (geometry : Geometry) (g : ℕ) (image : DiskImage) : Type 0 where
  pub some : 0 < geometry.journal_sectors
  pub later : g < shown_generation 1 (sector_at image (journal_place geometry))

-- the journal of the new image holds the records, and a prefix of those kept after them; no other
-- sector is changed
pub record AppendsFront (geometry : Geometry) (v : Version) (g used : ℕ)
    (records kept : List Record) (old new : DiskImage) : Type 0 where
  pub count : ℕ
  pub within : count ≤ length kept
  pub in_journal : JournalHolds geometry v g (records ++ take count kept) new
  pub none_later : ShowsNoneAfter geometry g new
  pub others : SameOthers geometry used old new

-- what the records of a journal are: these are on the disk whatever a cut leaves, and those only in
-- memory
pub record IsOn (geometry : Geometry) (v : Version) (g used : ℕ) (kept_bytes : List ℕ)
    (records kept : List Record) (outcomes : DiskImage → Type 0) : Type 0 where
  pub holds_records : (image : DiskImage) → outcomes image → HoldsRecords geometry v g
      used records image
  pub spells : kept_bytes ≡ records_bytes v kept
  pub fit : AllRecordsFit v records
  pub fit_kept : AllRecordsFit v kept
  pub generation : g < 2 ^ 64

-- so many sectors from this one on are written one after another, and then synced; for none there
-- is no call
abbrev pub calls_to : ℕ → ℕ → List DiskCall
calls_to at zero = []
calls_to at (suc n) = synced_writes at (suc n)

-- what a barrier asks the disk for: the sectors that the kept bytes take, the first of them after
-- those in use
abbrev pub barrier_calls : Geometry → JournalState → List DiskCall
barrier_calls geometry s = calls_to (journal_place geometry + s.used) (sectors_for (length s.kept))
