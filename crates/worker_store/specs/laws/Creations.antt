-- What the steps of a creation leave of an image.
use Rattle.std.specs.Prelude.{◌≡◌, ◌⊎◌, ℕ, ◌+◌, ◌<◌, ◌≤◌, [], ◌∷◌, ◌++◌, List, length, replicate}
use Rattle.sha2.specs.Sha256.{sha256}
use Rattle.wasm_syntax.specs.declared.module.Module.{Module}
use Rattle.wasi_abi.specs.rules.Configs.{Settings}
use Rattle.wasi_abi.specs.rules.Layouts.{padding}
use Rattle.state_image.specs.rules.ProcessImage.{process_image}
use Rattle.sector_disk.specs.rules.DiskImage.{DiskImage, sector_at}
use Rattle.sector_disk.specs.rules.Run.{IsTornRun, IsWrittenRun}
use Rattle.sector_disk.specs.declared.sector.TheConstants.{SECTOR_SIZE}
use Rattle.disk_layout.specs.rules.Places.{Geometry, geometry_of, config_bytes, journal_place}
use Rattle.disk_layout.specs.rules.Sectors.{SectorsHold, super_bytes}
use Rattle.disk_layout.specs.declared.geometry.TheConstants.{MODULE_PLACE}
use Rattle.wasi_abi.specs.rules.Versions.{version_number}
use Rattle.journal.specs.rules.Steps.{ShowsEarlierThan}
use Rattle.snapshot.specs.rules.Heads.{HasNone, heads_to}
use Rattle.snapshot.specs.rules.Steps.{HasNew, Fills, Commits, Replaces}
use Rattle.worker_store.specs.restart_theorem.Stands.{IsNumbered, IsBlank}
use Rattle.worker_store.specs.rules.Savepoints.{Savepoint, places, BeginsAtPoint}
use Rattle.worker_store.specs.laws.Savepoints.{StandsBySaved}

abbrev pub zero_sector : List ℕ
zero_sector = padding SECTOR_SIZE

-- the super is of zeros
abbrev pub HasNoSuper : DiskImage → Type 0
HasNoSuper disk = sector_at disk 0 ≡ zero_sector

-- ---- without a super

abbrev pub NoSuperIsBlank : Type 0
NoSuperIsBlank = (disk : DiskImage) → HasNoSuper disk → IsBlank disk

-- zeros that are written over the super of a blank disk, whole or torn, leave it blank
abbrev pub ZerosKeepBlank : Type 0
ZerosKeepBlank =
    (old new : DiskImage) → IsBlank old → IsTornRun 0 (zero_sector ∷ []) 1 old new → IsBlank new

abbrev pub ZerosTakeSuper : Type 0
ZerosTakeSuper =
    (old new : DiskImage) → IsWrittenRun 0 (zero_sector ∷ []) 1 old new → HasNoSuper new

-- sectors that are written after the super leave it as it was
abbrev pub RunsKeepNoSuper : Type 0
RunsKeepNoSuper =
    (at n : ℕ) (sectors old new : DiskImage) → 1 ≤ at → HasNoSuper old
    → IsTornRun at sectors n old new → HasNoSuper new

-- ---- before the first head

-- Configuration and module are there. No head is complete, and no head and no sector of the
-- journal shows a generation.
pub record AwaitsHead (config : Settings) (wasm : List ℕ) (disk : DiskImage) : Type 0 where
  pub no_super : HasNoSuper disk
  pub contents : SectorsHold disk MODULE_PLACE (geometry_of config (length wasm)).module_sectors
      (config_bytes config ++ wasm)
  pub no_head : HasNone disk
  pub heads : heads_to disk ≡ 0
  pub journal : ShowsEarlierThan (geometry_of config (length wasm)) 1 disk

-- heads and journal are of zeros
pub record HasZeros (geometry : Geometry) (disk : DiskImage) : Type 0 where
  pub first_head : sector_at disk 1 ≡ zero_sector
  pub second_head : sector_at disk 2 ≡ zero_sector
  pub journal : (k : ℕ) → k < geometry.journal_sectors
      → sector_at disk (journal_place geometry + k) ≡ zero_sector

abbrev pub ZerosAwaitHead : Type 0
ZerosAwaitHead =
    (config : Settings) (wasm : List ℕ) (disk : DiskImage) → HasNoSuper disk
    → SectorsHold disk MODULE_PLACE (geometry_of config (length wasm)).module_sectors
    (config_bytes config ++ wasm)
    → HasZeros (geometry_of config (length wasm)) disk → AwaitsHead config wasm disk

-- zeros that are written to the heads and to the journal, over all else
abbrev pub ZeroRunsAwaitHead : Type 0
ZeroRunsAwaitHead =
    (config : Settings) (wasm : List ℕ) (first second third : DiskImage)
    → (let geometry : Geometry = geometry_of config (length wasm) in
    HasNoSuper first
    → SectorsHold first MODULE_PLACE geometry.module_sectors (config_bytes config ++ wasm)
    → IsWrittenRun 1 (zero_sector ∷ zero_sector ∷ []) 2 first second
    → IsWrittenRun (journal_place geometry) (replicate geometry.journal_sectors zero_sector)
    geometry.journal_sectors second third
    → AwaitsHead config wasm third)

abbrev pub FillingAwaitsHead : Type 0
FillingAwaitsHead =
    (config : Settings) (wasm : List ℕ) (old new : DiskImage) → AwaitsHead config wasm old
    → Fills (geometry_of config (length wasm)) 1 old new → AwaitsHead config wasm new

-- whatever the commit of the first generation has left, there is no super
abbrev pub FirstCommitKeepsNoSuper : Type 0
FirstCommitKeepsNoSuper =
    (geometry : Geometry) (version : ℕ) (bytes : List ℕ) (old new : DiskImage) → HasNoSuper old
    → Commits geometry 1 version bytes old new → HasNoSuper new

-- ---- behind the first head

-- The savepoint is there, but for the super, and its numbers are below their ends.
pub record AwaitsSuper {m : Module} {config : Settings} (point : Savepoint m config)
    (disk : DiskImage) : Type 0 where
  pub no_super : HasNoSuper disk
  pub contents : SectorsHold disk MODULE_PLACE (places point).module_sectors
      (config_bytes config ++ point.wasm)
  pub new : HasNew (places point) point.generation (version_number point.saved.version)
      (process_image point.saved) disk
  pub journal : ShowsEarlierThan (places point) point.generation disk
  pub numbers : IsNumbered point.process

abbrev pub FirstCommitAwaitsSuper : Type 0
FirstCommitAwaitsSuper =
    (m : Module) (config : Settings) (point : Savepoint m config) (old new : DiskImage)
    → point.generation ≡ 1 → IsNumbered point.process → AwaitsHead config point.wasm old
    → Replaces (places point) point.generation (version_number point.saved.version)
    (process_image point.saved) old new
    → AwaitsSuper point new

-- the super of this savepoint
abbrev pub super_of_point : {m : Module} {config : Settings} → Savepoint m config → List ℕ
super_of_point {config = config} point =
    super_bytes (places point) (sha256 (config_bytes config ++ point.wasm))

-- While the super is written, the disk is blank or stands for the worker.
abbrev pub SuperBegins : Type 0
SuperBegins =
    (m : Module) (config : Settings) (point : Savepoint m config) (old new : DiskImage)
    → AwaitsSuper point old → IsTornRun 0 (super_of_point point ∷ []) 1 old new
    → IsBlank new ⊎ BeginsAtPoint point new

abbrev pub WholeSuperBegins : Type 0
WholeSuperBegins =
    (m : Module) (config : Settings) (point : Savepoint m config) (old new : DiskImage)
    → AwaitsSuper point old → IsWrittenRun 0 (super_of_point point ∷ []) 1 old new
    → BeginsAtPoint point new

-- A fresh savepoint stands for no answers, at step 0.
abbrev pub FreshStandsForNone : Type 0
FreshStandsForNone =
    (m : Module) (config : Settings) (point : Savepoint m config) (disk : DiskImage)
    → point.front ≡ [] → point.steps ≡ 0 → BeginsAtPoint point disk
    → StandsBySaved point [] 0 disk
