-- What the calls of a commit and of a creation leave of a disk, whatever a cut leaves.
use Rattle.std.specs.Prelude.{◌≡◌, ◌⊎◌, ℕ, ◌+◌, ◌≤◌, List, [], ◌∷◌, ◌++◌, length, replicate}
use Rattle.wasm_syntax.specs.declared.module.Module.{Module}
use Rattle.wasi_abi.specs.rules.Configs.{Settings}
use Rattle.process_rules.specs.Processes.{ProcessState}
use Rattle.process_rules.specs.Runs.{Kept}
use Rattle.state_image.specs.rules.ProcessImage.{process_image}
use Rattle.sector_disk.specs.rules.DiskImage.{DiskImage}
use Rattle.sector_disk.specs.rules.Medium.{Medium, After, Follows, LeavesOnly}
use Rattle.sector_disk.specs.rules.Run.{IsTornRun, IsWrittenRun}
use Rattle.disk_layout.specs.rules.Places.{geometry_of, config_bytes, journal_place}
use Rattle.disk_layout.specs.rules.Sectors.{SectorsHold}
use Rattle.disk_layout.specs.rules.Journal.{Record}
use Rattle.disk_layout.specs.declared.geometry.Geometry.{Geometry}
use Rattle.disk_layout.specs.declared.geometry.TheConstants.{MODULE_PLACE}
use Rattle.wasi_abi.specs.rules.Versions.{version_number}
use Rattle.snapshot.specs.rules.Steps.{Fills, Commits, Replaces}
use Rattle.worker_store.specs.restart_theorem.Stands.{IsNumbered, IsBlank}
use Rattle.worker_store.specs.rules.Savepoints.{Savepoint, places, IsAtSavepoint, BeginsAtPoint}
use Rattle.worker_store.specs.rules.Savepoints.{IsNextPoint, StandsBefore, LeavesAll}
use Rattle.worker_store.specs.laws.Creations.{zero_sector, HasNoSuper, AwaitsHead, AwaitsSuper}
use Rattle.worker_store.specs.laws.Creations.{super_of_point}

-- ---- a commit

-- while the area of the next generation is filled
abbrev pub FillAtAnyMoment : {D : Type 0} → (D → Medium) → Type 0
FillAtAnyMoment {D} medium =
    (m : Module) (config : Settings) (point : Savepoint m config) (records : List Record)
    (last : ProcessState) (old new : D)
    → LeavesAll (medium old) (IsAtSavepoint point records last)
    → LeavesOnly (medium old) (medium new)
    (After (Fills (places point) (point.generation + 1)) (medium old).crash_images)
    → LeavesOnly (medium old) (medium new) (IsAtSavepoint point records last)

-- while the next savepoint is committed
abbrev pub CommitAtAnyMoment : {D : Type 0} → (D → Medium) → Type 0
CommitAtAnyMoment {D} medium =
    (m : Module) (config : Settings) (point next : Savepoint m config) (records : List Record)
    (last : ProcessState) (old new : D)
    → LeavesAll (medium old) (IsAtSavepoint point records last) → IsNextPoint point next
    → LeavesOnly (medium old) (medium new)
    (After (Commits (places point) next.generation (version_number next.saved.version)
    (process_image next.saved))
    (medium old).crash_images)
    → LeavesOnly (medium old) (medium new)
    (λ disk. IsAtSavepoint point records last disk ⊎ BeginsAtPoint next disk)

-- once the commit has answered Ok
abbrev pub CommitInTheEnd : {D : Type 0} → (D → Medium) → Type 0
CommitInTheEnd {D} medium =
    (m : Module) (config : Settings) (point next : Savepoint m config) (records : List Record)
    (last : ProcessState) (old new : D)
    → LeavesAll (medium old) (IsAtSavepoint point records last) → IsNextPoint point next
    → Follows (Replaces (places point) next.generation (version_number next.saved.version)
    (process_image next.saved))
    (medium old).crash_images (medium new).crash_images
    → LeavesAll (medium new) (BeginsAtPoint next)

-- ---- a commit of the next generation, whatever the disk stands by

abbrev pub FillKeepsAtAnyMoment : {D : Type 0} → (D → Medium) → Type 0
FillKeepsAtAnyMoment {D} medium =
    (m : Module) (config : Settings) (next : Savepoint m config) (kept : List Kept) (n : ℕ)
    (old new : D) → LeavesAll (medium old) (StandsBefore next kept n)
    → LeavesOnly (medium old) (medium new)
    (After (Fills (places next) next.generation) (medium old).crash_images)
    → LeavesOnly (medium old) (medium new) (StandsBefore next kept n)

abbrev pub CommitKeepsAtAnyMoment : {D : Type 0} → (D → Medium) → Type 0
CommitKeepsAtAnyMoment {D} medium =
    (m : Module) (config : Settings) (next : Savepoint m config) (kept : List Kept) (n : ℕ)
    (old new : D) → LeavesAll (medium old) (StandsBefore next kept n)
    → LeavesOnly (medium old) (medium new)
    (After (Commits (places next) next.generation (version_number next.saved.version)
    (process_image next.saved))
    (medium old).crash_images)
    → LeavesOnly (medium old) (medium new)
    (λ disk. StandsBefore next kept n disk ⊎ BeginsAtPoint next disk)

abbrev pub CommitKeepsInTheEnd : {D : Type 0} → (D → Medium) → Type 0
CommitKeepsInTheEnd {D} medium =
    (m : Module) (config : Settings) (next : Savepoint m config) (kept : List Kept) (n : ℕ)
    (old new : D) → LeavesAll (medium old) (StandsBefore next kept n)
    → Follows (Replaces (places next) next.generation (version_number next.saved.version)
    (process_image next.saved))
    (medium old).crash_images (medium new).crash_images
    → LeavesAll (medium new) (BeginsAtPoint next)

-- ---- a creation

-- while zeros are written over the super
abbrev pub ZerosAtAnyMoment : {D : Type 0} → (D → Medium) → Type 0
ZerosAtAnyMoment {D} medium =
    (old new : D) → LeavesAll (medium old) IsBlank
    → LeavesOnly (medium old) (medium new)
    (After (IsTornRun 0 (zero_sector ∷ []) 1) (medium old).crash_images)
    → LeavesOnly (medium old) (medium new) IsBlank

-- once they are durable
abbrev pub ZerosInTheEnd : {D : Type 0} → (D → Medium) → Type 0
ZerosInTheEnd {D} medium =
    (old new : D)
    → Follows (IsWrittenRun 0 (zero_sector ∷ []) 1) (medium old).shows (medium new).crash_images
    → LeavesAll (medium new) HasNoSuper

-- while sectors after the super are written
abbrev pub RunAtAnyMoment : {D : Type 0} → (D → Medium) → Type 0
RunAtAnyMoment {D} medium =
    (at n : ℕ) (sectors : DiskImage) (old new : D) → 1 ≤ at → LeavesAll (medium old) HasNoSuper
    → LeavesOnly (medium old) (medium new)
    (After (IsTornRun at sectors n) (medium old).crash_images)
    → LeavesOnly (medium old) (medium new) HasNoSuper

-- once zeros are in heads and journal too, and all is durable
abbrev pub ZeroRunsInTheEnd : {D : Type 0} → (D → Medium) → Type 0
ZeroRunsInTheEnd {D} medium =
    (config : Settings) (wasm : List ℕ) (first second third synced : D)
    → (let geometry : Geometry = geometry_of config (length wasm) in
    ((disk : DiskImage) → (medium first).shows disk → HasNoSuper disk
    × SectorsHold disk MODULE_PLACE geometry.module_sectors (config_bytes config ++ wasm))
    → Follows (IsWrittenRun 1 (zero_sector ∷ zero_sector ∷ []) 2) (medium first).shows
    (medium second).shows
    → Follows (IsWrittenRun (journal_place geometry)
    (replicate geometry.journal_sectors zero_sector) geometry.journal_sectors)
    (medium second).shows (medium third).shows
    → ((disk : DiskImage) → (medium synced).crash_images disk → (medium third).shows disk)
    → LeavesAll (medium synced) (AwaitsHead config wasm))

-- while the area of the first generation is filled
abbrev pub FirstFillAtAnyMoment : {D : Type 0} → (D → Medium) → Type 0
FirstFillAtAnyMoment {D} medium =
    (config : Settings) (wasm : List ℕ) (old new : D)
    → LeavesAll (medium old) (AwaitsHead config wasm)
    → LeavesOnly (medium old) (medium new)
    (After (Fills (geometry_of config (length wasm)) 1) (medium old).crash_images)
    → LeavesOnly (medium old) (medium new) (AwaitsHead config wasm)

-- while the first savepoint is committed
abbrev pub FirstCommitAtAnyMoment : {D : Type 0} → (D → Medium) → Type 0
FirstCommitAtAnyMoment {D} medium =
    (geometry : Geometry) (version : ℕ) (bytes : List ℕ) (old new : D)
    → LeavesAll (medium old) HasNoSuper
    → LeavesOnly (medium old) (medium new)
    (After (Commits geometry 1 version bytes) (medium old).crash_images)
    → LeavesOnly (medium old) (medium new) HasNoSuper

-- once that has answered Ok
abbrev pub FirstCommitInTheEnd : {D : Type 0} → (D → Medium) → Type 0
FirstCommitInTheEnd {D} medium =
    (m : Module) (config : Settings) (point : Savepoint m config) (old new : D)
    → point.generation ≡ 1 → IsNumbered point.process
    → LeavesAll (medium old) (AwaitsHead config point.wasm)
    → Follows (Replaces (places point) point.generation (version_number point.saved.version)
    (process_image point.saved))
    (medium old).crash_images (medium new).crash_images
    → LeavesAll (medium new) (AwaitsSuper point)

-- while the super is written
abbrev pub SuperAtAnyMoment : {D : Type 0} → (D → Medium) → Type 0
SuperAtAnyMoment {D} medium =
    (m : Module) (config : Settings) (point : Savepoint m config) (old new : D)
    → LeavesAll (medium old) (AwaitsSuper point)
    → LeavesOnly (medium old) (medium new)
    (After (IsTornRun 0 (super_of_point point ∷ []) 1) (medium old).crash_images)
    → LeavesOnly (medium old) (medium new) (λ disk. IsBlank disk ⊎ BeginsAtPoint point disk)

-- once it is durable
abbrev pub SuperInTheEnd : {D : Type 0} → (D → Medium) → Type 0
SuperInTheEnd {D} medium =
    (m : Module) (config : Settings) (point : Savepoint m config) (old new : D)
    → LeavesAll (medium old) (AwaitsSuper point)
    → Follows (IsWrittenRun 0 (super_of_point point ∷ []) 1) (medium old).shows
    (medium new).crash_images
    → LeavesAll (medium new) (BeginsAtPoint point)
