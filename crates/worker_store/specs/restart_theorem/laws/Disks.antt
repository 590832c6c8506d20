-- Laws of the disk images that stand for a worker.
use Rattle.std.specs.Prelude.{◌≡◌, ℕ, ◌+◌, ◌^◌, ◌<◌, ◌≤◌, List, [], ◌∷◌, ◌++◌, length, map}
use Rattle.std.specs.Prelude.{replicate, take, false}
use Rattle.wasm_syntax.specs.declared.module.Module.{Module}
use Rattle.wasm_syntax.specs.rules.Modules.{IsModule}
use Rattle.wasi_abi.specs.declared.version.Version.{Version}
use Rattle.wasi_abi.specs.declared.version.Version.TheVariants.{One}
use Rattle.wasi_abi.specs.rules.Versions.{version_number, text_limit}
use Rattle.wasi_calls_rules.specs.declared.limits.TheConstants.{TEXT_BYTES}
use Rattle.state_image.specs.rules.ProcessImage.{process_image}
use Rattle.wasi_abi.specs.rules.Configs.{Settings}
use Rattle.process_rules.specs.Processes.{ProcessState, Guest}
use Rattle.process_rules.specs.Runs.{Kept, Runs, version_after, Reaches}
use Rattle.sector_disk.specs.rules.DiskImage.{DiskImage, sector_at}
use Rattle.disk_layout.specs.rules.Places.{Geometry, geometry_of, journal_place, total_sectors}
use Rattle.disk_layout.specs.rules.Sectors.{super_bytes, head_bytes, HasWorker, HoldsProcessImage}
use Rattle.disk_layout.specs.rules.Journal.{Record, journal_sector, is_of}
use Rattle.journal.specs.rules.Steps.{JournalHolds}
use Rattle.record_replay.specs.rules.Records.{Recorded, given_in}
use Rattle.worker_store.specs.restart_theorem.Stands.{ShowsNoneLater, IsNumbered, StandsFor}
use Rattle.worker_store.specs.restart_theorem.Stands.{IsBlank}
use Rattle.worker_store.specs.restart_theorem.Holds.{IsBounded}
use Rattle.sector_disk.specs.declared.sector.TheConstants.{SECTOR_SIZE}
use Rattle.disk_layout.specs.declared.superblock.TheConstants.{END_MARK_AT}

-- A disk stands only for what the module reaches on all the kept answers, in so many steps.
abbrev pub StandsForWhatIsReached : Type 0
StandsForWhatIsReached =
    (disk : DiskImage) (m : Module) (config : Settings) (kept : List Kept) (n : ℕ)
    → StandsFor disk m config kept n → (p : ProcessState) × Reaches m config kept n p

-- each of these steps is later than the one before, and none is later than the last
abbrev pub IsAscending : ℕ → List Record → ℕ → Type 0
IsAscending step [] last = step ≤ last
IsAscending step (r ∷ records) last = (step < r.step) × IsAscending r.step records last

-- The records of a journal are in the order of their steps.
abbrev pub RecordsAscend : Type 0
RecordsAscend =
    (guest : Guest) (p q : ProcessState) (records : List Record)
    → Recorded guest p records q → IsAscending p.steps records q.steps

-- Numbers only grow: what leads to a process whose numbers are below their ends has such too,
abbrev pub RunsKeepNumbers : Type 0
RunsKeepNumbers =
    (guest : Guest) (p q : ProcessState) (kept : List Kept) (n : ℕ)
    → Runs guest p kept n q → IsNumbered q → IsNumbered p

abbrev pub RecordsKeepNumbers : Type 0
RecordsKeepNumbers =
    (guest : Guest) (p q : ProcessState) (records : List Record)
    → Recorded guest p records q → IsNumbered q → IsNumbered p

-- and so has the process of the image of which a disk stands for a worker.
abbrev pub SavedAreNumbered : Type 0
SavedAreNumbered =
    (disk : DiskImage) (m : Module) (config : Settings) (kept : List Kept) (n : ℕ)
    → (stands : StandsFor disk m config kept n) → IsNumbered stands.process

-- a disk without a worker stands for none
abbrev pub BlankStandsForNone : Type 0
BlankStandsForNone =
    (disk : DiskImage) (m : Module) (config : Settings) (kept : List Kept) (n : ℕ)
    → IsBlank disk → StandsFor disk m config kept n → ⊥

-- where none is later than g, no image is of a later generation
abbrev pub NoLaterProcessImage : Type 0
NoLaterProcessImage =
    (geometry shape : Geometry) (disk : DiskImage) (g h version : ℕ) (bytes : List ℕ)
    → ShowsNoneLater geometry disk g → HoldsProcessImage shape disk h version bytes → h ≤ g

-- nor is a sector of the journal of a later generation
abbrev pub NoLaterSector : Type 0
NoLaterSector =
    (geometry : Geometry) (disk : DiskImage) (g h k : ℕ) → ShowsNoneLater geometry disk g → g < h
    → k < geometry.journal_sectors
    → is_of h (k + 1) (sector_at disk (journal_place geometry + k)) ≡ false

-- and the journal holds no record of one
abbrev pub NoLaterRecord : Type 0
NoLaterRecord =
    (geometry : Geometry) (v : Version) (disk : DiskImage) (g h : ℕ) (records : List Record)
    → ShowsNoneLater geometry disk g → g < h → JournalHolds geometry v h records disk
    → records ≡ []

-- So a disk stands for a worker by one generation alone.
abbrev pub OneGeneration : Type 0
OneGeneration =
    (disk : DiskImage) (m other : Module) (config settings : Settings) (kept others : List Kept)
    (n k : ℕ)
    → (left : StandsFor disk m config kept n) → (right : StandsFor disk other settings others k)
    → left.generation ≡ right.generation

-- and by one module, in one spelling, and one configuration
abbrev pub OneSpelledWorker : Type 0
OneSpelledWorker =
    (disk : DiskImage) (m other : Module) (config settings : Settings) (kept others : List Kept)
    (n k : ℕ)
    → (left : StandsFor disk m config kept n) → (right : StandsFor disk other settings others k)
    → (config ≡ settings) × (left.wasm ≡ right.wasm)

-- so bounds of what it stands for once are bounds of all that it stands for
abbrev pub StandsWithin : Type 0
StandsWithin =
    (disk : DiskImage) (m : Module) (config : Settings) (kept : List Kept) (n latest sectors : ℕ)
    (stands : StandsFor disk m config kept n) → stands.generation ≤ latest
    → total_sectors (geometry_of config (length stands.wasm)) ≤ sectors
    → IsBounded latest sectors disk

-- and what stands for no worker has any bounds
abbrev pub BlankIsWithin : Type 0
BlankIsWithin = (disk : DiskImage) (latest sectors : ℕ) → IsBlank disk
    → IsBounded latest sectors disk

-- The version in the newest head, of the image and of the records is the one to which the answers
-- of the image lead: so it is 2 exactly where they have a widening.
abbrev pub HeadsTellWidenings : Type 0
HeadsTellWidenings =
    (disk : DiskImage) (m : Module) (config : Settings) (kept : List Kept) (n : ℕ)
    → (stands : StandsFor disk m config kept n) → stands.saved.version ≡ version_after stands.front

-- What a disk stands by, with its numbers. It is the module that its bytes spell, at most 2 MiB of
-- them, and an image and records of the version to which the answers of the image lead. The kept
-- answers are those of the image and of the records. A worker has between 1 and 256 pages, and
-- fewer than 2 ^ 63 steps.
pub record StandsBy (disk : DiskImage) (m : Module) (config : Settings) (kept : List Kept) (n : ℕ)
    (stands : StandsFor disk m config kept n) : Type 0 where
  pub spelled : IsModule stands.wasm m
  pub size : length stands.wasm ≤ 2 ^ 21
  pub pages : (1 ≤ config.pages) × (config.pages ≤ 256)
  pub worker : HasWorker config stands.wasm disk
  pub held_image : HoldsProcessImage (geometry_of config (length stands.wasm)) disk
      stands.generation (version_number (version_after stands.front)) (process_image stands.saved)
  pub records : JournalHolds (geometry_of config (length stands.wasm)) (version_after stands.front)
      stands.generation stands.records disk
  pub kept_answers : kept ≡ stands.front ++ map given_in stands.records
  pub steps : n < 2 ^ 63

abbrev pub StandsByItsParts : Type 0
StandsByItsParts =
    (disk : DiskImage) (m : Module) (config : Settings) (kept : List Kept) (n : ℕ)
    → (stands : StandsFor disk m config kept n) → StandsBy disk m config kept n stands

-- ---- examples

-- two heads, of the generations 2 and 3, and one journal sector of generation 3
abbrev pub tiny : Geometry
tiny = record { config = 0; wasm = 0; module_sectors = 0; area_sectors = 0; journal_sectors = 1 }

abbrev pub head_of_generation : ℕ → List ℕ
head_of_generation g = head_bytes (record {
  version = 1;
  length_in_bytes = 0;
  digest = replicate 32 0;
  generation = g;
})

abbrev pub tiny_disk : ℕ → ℕ → ℕ → DiskImage
tiny_disk g h j = [] ∷ head_of_generation g ∷ head_of_generation h ∷ journal_sector j 1
    (7 ∷ []) ∷ []

-- a super whose last eight bytes are still zeros
abbrev pub torn_super : List ℕ
torn_super = take END_MARK_AT (super_bytes tiny (replicate 32 0)) ++ replicate 8 0

pub record DiskExamples : Type 0 where
  -- the longest payload of a record is the longest text of a request
  pub longest_payload : text_limit One ≡ TEXT_BYTES
  pub none_later : ShowsNoneLater tiny (tiny_disk 2 3 3) 3
  pub first_head_later : ShowsNoneLater tiny (tiny_disk 4 3 3) 3 → ⊥
  pub second_head_later : ShowsNoneLater tiny (tiny_disk 2 5 3) 3 → ⊥
  pub journal_later : ShowsNoneLater tiny (tiny_disk 2 3 4) 3 → ⊥
  pub no_sectors : IsBlank []
  pub zeros : IsBlank (replicate 4 (replicate SECTOR_SIZE 0))
  pub torn : IsBlank (torn_super ∷ [])
  pub marked : IsBlank (super_bytes tiny (replicate 32 0) ∷ []) → ⊥
