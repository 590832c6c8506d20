-- A disk image that stands for a worker (this project's own).
use Rattle.std.specs.Prelude.{◌≡◌, ℕ, ◌+◌, ◌^◌, ◌<◌, ◌≤◌, List, ◌++◌, length, map, Option}
use Rattle.wasm_syntax.specs.declared.module.Module.{Module}
use Rattle.wasm_syntax.specs.declared.types.FunctionType.{FunctionType}
use Rattle.wasm_rules.specs.Acceptance.{IsAccepted}
use Rattle.wasm_rules.specs.Validity.{AreFunctionTypes, module_context}
use Rattle.wasi_abi.specs.rules.Configs.{Settings, AreSettingsWithinLimits}
use Rattle.wasi_abi.specs.rules.Versions.{version_number}
use Rattle.machine.specs.rules.Offers.{offer}
use Rattle.process_rules.specs.Processes.{ProcessState, HasLineNumbers}
use Rattle.process_rules.specs.Runs.{Kept, Reaches}
use Rattle.state_image.specs.rules.ProcessImage.{Saved, SavedShowsProcess, process_image}
use Rattle.sector_disk.specs.rules.DiskImage.{DiskImage, sector_at}
use Rattle.disk_layout.specs.rules.Places.{Geometry, geometry_of, journal_place}
use Rattle.disk_layout.specs.rules.Sectors.{HasMarks, HasWorker, HoldsProcessImage}
use Rattle.disk_layout.specs.rules.Sectors.{shown_generation}
use Rattle.disk_layout.specs.rules.Journal.{Record, TakesRecords}
use Rattle.journal.specs.rules.Steps.{JournalHolds}
use Rattle.record_replay.specs.rules.Records.{Recorded, given_in}
use Rattle.disk_layout.specs.declared.head.TheConstants.{HEAD_STAMP_PLACE}

-- no head and no journal sector shows a later generation
pub record ShowsNoneLater (geometry : Geometry) (disk : DiskImage) (g : ℕ) : Type 0 where
  pub first_head : shown_generation HEAD_STAMP_PLACE (sector_at disk 1) ≤ g
  pub second_head : shown_generation HEAD_STAMP_PLACE (sector_at disk 2) ≤ g
  pub journal : (k : ℕ) → k < geometry.journal_sectors
      → shown_generation (k + 1) (sector_at disk (journal_place geometry + k)) ≤ g

-- its steps and its lines are below the ends of their numbers
pub record IsNumbered (p : ProcessState) : Type 0 where
  pub steps : p.steps < 2 ^ 63
  pub lines : HasLineNumbers p.host

-- On the disk are a configuration within its limits, and bytes that are accepted as the module.
-- The newest complete head names an image there, of a process to which the module comes on the
-- first of the kept answers. All others are the records of the journal of that generation, one by
-- one, each at its step. Head, image and records are of the version of that process, and the
-- journal takes the longest record of it. Step n is that of the last record, or, if there are no
-- records, of the image. Up to there all numbers are below their ends.
pub record StandsFor (disk : DiskImage) (m : Module) (config : Settings) (kept : List Kept) (n : ℕ)
    : Type 0 where
  pub wasm : List ℕ
  pub accepted : IsAccepted offer config.pages wasm m
  pub settings : AreSettingsWithinLimits config
  pub worker : HasWorker config wasm disk
  pub generation : ℕ
  pub saved : Saved
  pub holds : HoldsProcessImage (geometry_of config (length wasm)) disk generation
      (version_number saved.version) (process_image saved)
  pub front : List Kept
  pub steps : ℕ
  pub process : ProcessState
  pub reached : Reaches m config front steps process
  pub functions : List FunctionType
  pub function_types : AreFunctionTypes m functions
  pub table : List (Option ℕ)
  pub shown : SavedShowsProcess (module_context m functions) reached.guest.program table saved
      process
  pub records : List Record
  pub in_journal : JournalHolds (geometry_of config (length wasm)) saved.version generation records
      disk
  pub rest : kept ≡ front ++ map given_in records
  pub last : ProcessState
  pub recorded : Recorded reached.guest process records last
  pub numbers : IsNumbered last
  pub at_step : n ≡ last.steps
  pub none_later : ShowsNoneLater (geometry_of config (length wasm)) disk generation
  pub room : TakesRecords saved.version config.journal

-- there is no worker on the disk: a mark of the super is missing
abbrev pub IsBlank : DiskImage → Type 0
IsBlank disk = HasMarks disk → ⊥
