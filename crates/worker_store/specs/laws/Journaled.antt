-- What calls of a journal leave of a disk that stands for a worker, whatever a cut leaves.
use Rattle.std.specs.Prelude.{◌≡◌, ℕ, ◌^◌, ◌<◌, List, [], ◌∷◌, ◌++◌, false, Some}
use Rattle.wasm_syntax.specs.declared.module.Module.{Module}
use Rattle.wasi_abi.specs.declared.answer.Answer.{Answer}
use Rattle.wasi_abi.specs.rules.Configs.{Settings}
use Rattle.process_rules.specs.Processes.{ProcessState}
use Rattle.process_rules.specs.Runs.{Runs, Moves}
use Rattle.sector_disk.specs.rules.DiskImage.{DiskImage}
use Rattle.sector_disk.specs.rules.Medium.{Medium, After, LeavesOnly}
use Rattle.disk_layout.specs.rules.Journal.{Record, record_bytes}
use Rattle.journal.specs.rules.State.{JournalState, state}
use Rattle.journal.specs.rules.Steps.{AppendsFront, HoldsRecords, RecordFits}
use Rattle.worker_store.specs.restart_theorem.Stands.{IsNumbered}
use Rattle.worker_store.specs.rules.Savepoints.{Savepoint, places, IsAtFront, BeginsAtPoint}
use Rattle.worker_store.specs.rules.Savepoints.{IsJournaled}

-- a cut at any moment of a barrier leaves a prefix of the pending records
abbrev pub BarrierAtAnyMoment : {D : Type 0} → (D → Medium) → Type 0
BarrierAtAnyMoment {D} medium =
    (m : Module) (config : Settings) (point : Savepoint m config) (journal : JournalState)
    (records pending : List Record) (last now : ProcessState) (old new : D)
    → IsJournaled point journal records pending last now (medium old)
    → LeavesOnly (medium old) (medium new)
    (After (AppendsFront (places point) journal.version journal.generation journal.used records
    pending)
    (medium old).crash_images)
    → LeavesOnly (medium old) (medium new) (IsAtFront point records last pending)

-- Once it has answered Ok, all of them are on the disk, and none is pending.
abbrev pub BarrierInTheEnd : {D : Type 0} → (D → Medium) → Type 0
BarrierInTheEnd {D} medium =
    (m : Module) (config : Settings) (point : Savepoint m config) (before after : JournalState)
    (records pending : List Record) (last now : ProcessState) (used : ℕ) (old new : D)
    → IsJournaled point before records pending last now (medium old)
    → LeavesOnly (medium old) (medium new)
    (After (AppendsFront (places point) before.version before.generation before.used records
    pending)
    (medium old).crash_images)
    → after ≡ state before.version before.generation used [] false
    → ((image : DiskImage) → (medium new).crash_images image
    → HoldsRecords (places point) after.version after.generation after.used (records ++ pending)
    image)
    → IsJournaled point after (records ++ pending) [] now now (medium new)

-- the record of an answer that a process has taken is appended
abbrev pub AppendGoesOn : {D : Type 0} → (D → Medium) → Type 0
AppendGoesOn {D} medium =
    (m : Module) (config : Settings) (point : Savepoint m config) (before after : JournalState)
    (records pending : List Record) (last now asks next : ProcessState) (a : Answer) (n : ℕ)
    (disk : D) → (let r : Record = record { step = next.steps; answer = a } in
    IsJournaled point before records pending last now (medium disk)
    → Runs point.reached.guest now [] n asks → Moves point.reached.guest asks (Some a) next
    → RecordFits before.version r → IsNumbered next
    → after ≡ state before.version before.generation before.used
    (before.kept ++ record_bytes before.version r) false
    → IsJournaled point after records (pending ++ r ∷ []) last next (medium disk))

-- where a cut leaves no other image than before
abbrev pub StaysJournaled : {D : Type 0} → (D → Medium) → Type 0
StaysJournaled {D} medium =
    (m : Module) (config : Settings) (point : Savepoint m config) (journal : JournalState)
    (records pending : List Record) (last now : ProcessState) (old new : D)
    → IsJournaled point journal records pending last now (medium old)
    → ((image : DiskImage) → (medium new).crash_images image → (medium old).crash_images image)
    → IsJournaled point journal records pending last now (medium new)

-- the fresh journal of a disk that begins at a savepoint
abbrev pub BeginsJournaled : {D : Type 0} → (D → Medium) → Type 0
BeginsJournaled {D} medium =
    (m : Module) (config : Settings) (point : Savepoint m config) (disk : D)
    → ((image : DiskImage) → (medium disk).crash_images image → BeginsAtPoint point image)
    → point.generation < 2 ^ 64 → IsNumbered point.process
    → IsJournaled point (state point.saved.version point.generation 0 [] false) [] []
    point.process point.process (medium disk)
