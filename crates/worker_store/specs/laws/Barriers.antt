-- What a barrier leaves of an image that stands for a worker.
use Rattle.std.specs.Prelude.{◌≡◌, ℕ, ◌+◌, List, [], ◌∷◌, ◌++◌, length, map, take, Some}
use Rattle.wasm_syntax.specs.declared.module.Module.{Module}
use Rattle.wasi_abi.specs.declared.answer.Answer.{Answer}
use Rattle.wasi_abi.specs.rules.Configs.{Settings}
use Rattle.process_rules.specs.Processes.{ProcessState, Guest}
use Rattle.process_rules.specs.Runs.{Kept, Runs, Moves}
use Rattle.sector_disk.specs.rules.DiskImage.{DiskImage}
use Rattle.disk_layout.specs.rules.Places.{geometry_of}
use Rattle.disk_layout.specs.rules.Journal.{Record}
use Rattle.journal.specs.rules.Steps.{AppendsFront, HoldsRecords, AllRecordsFit}
use Rattle.record_replay.specs.rules.Records.{Recorded, given_in}
use Rattle.worker_store.specs.restart_theorem.Stands.{IsNumbered, StandsFor}
use Rattle.worker_store.specs.rules.Savepoints.{Savepoint, places, IsAtSavepoint, IsAtFront}
use Rattle.worker_store.specs.laws.Savepoints.{point_of, StandsBySaved}

-- ---- records

-- From a process with records on, one answer more.
abbrev pub RecordedOnce : Type 0
RecordedOnce =
    (guest : Guest) (p q r s : ProcessState) (records : List Record) (a : Answer) (n : ℕ)
    → Recorded guest p records q → Runs guest q [] n r → Moves guest r (Some a) s
    → Recorded guest p (records ++ record { step = s.steps; answer = a } ∷ []) s

-- ---- an image

-- Whatever a barrier has left, the image stands for a prefix of the pending records.
abbrev pub BarrierLeavesFront : Type 0
BarrierLeavesFront =
    (m : Module) (config : Settings) (point : Savepoint m config) (records pending : List Record)
    (last q : ProcessState) (used : ℕ) (old new : DiskImage)
    → IsAtSavepoint point records last old → Recorded point.reached.guest last pending q
    → IsNumbered q
    → AppendsFront (places point) point.saved.version point.generation used records pending old new
    → IsAtFront point records last pending new

-- Where all of them are in the journal, it stands for all.
abbrev pub BarrierLeavesAll : Type 0
BarrierLeavesAll =
    (m : Module) (config : Settings) (point : Savepoint m config) (records pending : List Record)
    (last q : ProcessState) (used count : ℕ) (old new : DiskImage)
    → IsAtSavepoint point records last old → Recorded point.reached.guest last pending q
    → IsNumbered q
    → AppendsFront (places point) point.saved.version point.generation used records pending old new
    → AllRecordsFit point.saved.version records → AllRecordsFit point.saved.version pending
    → HoldsRecords (places point) point.saved.version point.generation count (records
    ++ pending) new → IsAtSavepoint point (records ++ pending) q new

-- Of all answers, those in memory included, it stands for so many.
abbrev pub FrontStands : Type 0
FrontStands =
    (m : Module) (config : Settings) (point : Savepoint m config) (records pending : List Record)
    (last : ProcessState) (disk : DiskImage) (kept : List Kept)
    → kept ≡ point.front ++ map given_in (records ++ pending)
    → (at : IsAtFront point records last pending disk)
    → StandsBySaved point (take (length point.front + length records + at.count) kept)
    at.process.steps disk

-- So where it stood for some answers, it stands for these and for those of the front, by the same
-- savepoint, at the step of the process after them.
abbrev pub BarrierStands : Type 0
BarrierStands =
    (m : Module) (config : Settings) (kept : List Kept) (n : ℕ) (old new : DiskImage)
    (stands : StandsFor old m config kept n) (pending : List Record) (q : ProcessState) (used : ℕ)
    → Recorded stands.reached.guest stands.last pending q → IsNumbered q
    → (appends : AppendsFront (geometry_of config (length stands.wasm)) stands.saved.version
    stands.generation used stands.records pending old new)
    → (r : ProcessState)
    × Recorded stands.reached.guest stands.last (take appends.count pending) r
    × StandsBySaved (point_of stands) (kept ++ map given_in (take appends.count pending)) r.steps
    new
