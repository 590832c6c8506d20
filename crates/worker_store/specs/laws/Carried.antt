-- What a worker's disk holds of what was promised, between the calls of the disk and within each.
use Rattle.std.specs.Prelude.{◌≡◌, ◌⊎◌, ℕ, ◌≤◌, true, List, [], ◌++◌, length, take, drop, None}
use Rattle.wasm_syntax.specs.declared.module.Module.{Module}
use Rattle.wasi_abi.specs.rules.Configs.{Settings}
use Rattle.process_rules.specs.Processes.{ProcessState}
use Rattle.process_rules.specs.Behind.{IsNarrowTo}
use Rattle.process_rules.specs.Runs.{Kept, Runs}
use Rattle.sector_disk.specs.rules.DiskImage.{DiskImage}
use Rattle.sector_disk.specs.rules.Medium.{Medium, LeavesOnly}
use Rattle.disk_layout.specs.rules.Sectors.{HasMarks}
use Rattle.disk_layout.specs.rules.Journal.{Record}
use Rattle.journal.specs.rules.State.{JournalState}
use Rattle.worker_store.specs.restart_theorem.Stands.{IsBlank}
use Rattle.worker_store.specs.restart_theorem.Lives.{Act, Done, Opened, Ended}
use Rattle.worker_store.specs.restart_theorem.Courses.{Stage, Shut, IsLast}
use Rattle.worker_store.specs.restart_theorem.Promises.{Promise, after, IsAt, TakesLast, IsOpening}
use Rattle.worker_store.specs.restart_theorem.Holds.{HoldsPromise, IsNothingYet, DiskImageHolds}
use Rattle.worker_store.specs.restart_theorem.Holds.{KeepsPromise, CarriesPromise}
use Rattle.worker_store.specs.rules.Savepoints.{Savepoint, IsAtSavepoint, IsAtFront, BeginsAtPoint}
use Rattle.worker_store.specs.rules.Savepoints.{IsJournaled}
use Rattle.worker_store.specs.laws.Savepoints.{point_of}
use Rattle.worker_store.specs.laws.Acts.{SavesWith, keeping_more}
use Rattle.worker_store.specs.rules.Carried.{answers_at, IsHeldAt, IsCarried}

-- ---- a savepoint and its records

-- What is at a savepoint with its records holds what these hold,
abbrev pub HeldAtHoldsPromise : Type 0
HeldAtHoldsPromise =
    (m : Module) (config : Settings) (promise : Promise) (point : Savepoint m config)
    (records : List Record) (last : ProcessState) (disk : DiskImage)
    → IsHeldAt promise point records last → IsAtSavepoint point records last disk
    → HoldsPromise m config promise promise disk

-- and what holds all that is promised is at such a savepoint, with such records.
abbrev pub PromiseIsHeldAt : Type 0
PromiseIsHeldAt =
    (m : Module) (config : Settings) (promise : Promise) (disk : DiskImage)
    → (holds : HoldsPromise m config promise promise disk)
    → IsHeldAt promise (point_of holds.stands) holds.stands.records holds.stands.last

-- What a recovery finds with the marks of a worker holds what is promised,
abbrev pub MarkedIsHeld : Type 0
MarkedIsHeld =
    (m : Module) (config : Settings) (promise : Promise) (disk : DiskImage)
    → DiskImageHolds m config promise promise disk → HasMarks disk
    → HoldsPromise m config promise promise disk

-- and where it finds no worker, nothing has been promised.
abbrev pub BlankIsUnopened : Type 0
BlankIsUnopened =
    (m : Module) (config : Settings) (promise : Promise) (disk : DiskImage)
    → DiskImageHolds m config promise promise disk → IsBlank disk → IsNothingYet promise

-- no more is promised by the first than by the second
pub record PromisesNoMore (less more : Promise) : Type 0 where
  pub answers : less.answers ≤ more.answers
  pub steps : less.steps ≤ more.steps
  pub passed : less.passed ≤ more.passed
  pub begun : less.begun ≤ more.begun
  pub synced : less.synced ≤ more.synced

-- So what holds the more holds the less.
abbrev pub LessIsHeld : Type 0
LessIsHeld =
    (m : Module) (config : Settings) (less more now : Promise) (disk : DiskImage)
    → PromisesNoMore less more → HoldsPromise m config more now disk
    → HoldsPromise m config less now disk

-- ---- savepoints

-- A savepoint is of a process to which the last one has come by these. It has the answers that are
-- on record, and then these: the first of all that is kept. An outlet has taken all its lines.
pub record SavesFront {m : Module} {config : Settings} (promise : Promise)
    (point next : Savepoint m config) (records : List Record) (more : List Kept)
    (last : ProcessState) : Type 0 where
  pub front : next.front ≡ answers_at point records ++ more
  pub kept : take (length next.front) promise.kept ≡ next.front
  pub up_to : IsNarrowTo (drop (length next.front) promise.kept) next.process.steps
  pub steps : ℕ
  pub runs : Runs point.reached.guest last more steps next.process
  pub heard : next.saved.lines ≤ promise.heard

-- It holds what the last one and the records after that hold.
abbrev pub NextIsHeld : Type 0
NextIsHeld =
    (m : Module) (config : Settings) (promise : Promise) (point next : Savepoint m config)
    (records : List Record) (more : List Kept) (last : ProcessState)
    → IsHeldAt promise point records last → SavesFront promise point next records more last
    → IsHeldAt promise next [] next.process

-- A fresh savepoint without lines holds all where nothing has been promised but a creation begun.
abbrev pub FreshIsHeld : Type 0
FreshIsHeld =
    (m : Module) (config : Settings) (promise : Promise) (point : Savepoint m config)
    → IsNothingYet promise → promise.was_created ≡ true → point.front ≡ []
    → point.saved.lines ≡ 0 → IsHeldAt promise point [] point.process

-- It holds also what the end of an act that saves promises, where it has all that is kept then,
abbrev pub SavedIsHeld : Type 0
SavedIsHeld =
    (m : Module) (config : Settings) (promise : Promise) (act : Act) (more : List Kept)
    (point : Savepoint m config) → SavesWith promise act more point.saved
    → IsHeldAt (keeping_more promise more) point [] point.process
    → point.front ≡ promise.kept ++ more
    → IsHeldAt (after promise (Ended act Done (length point.front) point.saved)) point []
    point.process

-- and what a life promises that opens there.
abbrev pub OpeningIsHeld : Type 0
OpeningIsHeld =
    (m : Module) (config : Settings) (promise : Promise) (point : Savepoint m config)
    → IsHeldAt promise point [] point.process
    → IsHeldAt (after promise (Opened (length point.front) point.saved)) point [] point.process

-- what is saved is what its answers lead to
abbrev pub PointIsAt : Type 0
PointIsAt =
    (m : Module) (config : Settings) (point : Savepoint m config)
    → IsAt m config point.front point.saved.steps point.saved

-- So a life may open there that has told no line beyond, and if it has told one, has just taken the
-- last of its answers.
abbrev pub PointOpens : Type 0
PointOpens =
    (m : Module) (config : Settings) (promise : Promise) (point : Savepoint m config)
    (stage : Stage) → IsHeldAt promise point [] point.process → stage.phase ≡ Shut
    → IsLast stage.line point.saved.lines
    → (stage.line ≡ None)
    ⊎ TakesLast m config (take (length point.front) promise.kept) point.saved.steps
    → IsOpening m config promise stage (length point.front) point.saved

-- ---- a disk

-- A cut of the disk of an open worker leaves what holds all that is promised.
abbrev pub CarriedKeeps : {D : Type 0} → (D → Medium) → Type 0
CarriedKeeps {D} medium =
    (m : Module) (config : Settings) (promise : Promise) (point : Savepoint m config)
    (journal : JournalState) (records pending : List Record) (last now : ProcessState) (disk : D)
    → IsCarried promise point journal records pending last now (medium disk)
    → KeepsPromise m config promise (medium disk)

-- where a cut leaves no other image than before
abbrev pub StaysCarried : {D : Type 0} → (D → Medium) → Type 0
StaysCarried {D} medium =
    (m : Module) (config : Settings) (promise : Promise) (point : Savepoint m config)
    (journal : JournalState) (records pending : List Record) (last now : ProcessState)
    (old new : D) → IsCarried promise point journal records pending last now (medium old)
    → ((image : DiskImage) → (medium new).crash_images image → (medium old).crash_images image)
    → IsCarried promise point journal records pending last now (medium new)

-- A barrier leaves it so, by Ok or by any error, whatever less was promised when the call began.
abbrev pub BarrierCarries : {D : Type 0} → (D → Medium) → Type 0
BarrierCarries {D} medium =
    (m : Module) (config : Settings) (less promise : Promise) (point : Savepoint m config)
    (journal : JournalState) (records pending : List Record) (last now : ProcessState)
    (old new : D) → PromisesNoMore less promise
    → IsCarried promise point journal records pending last now (medium old)
    → LeavesOnly (medium old) (medium new) (IsAtFront point records last pending)
    → CarriesPromise m config less promise (medium old) (medium new)

-- once it has answered Ok
abbrev pub BarrierCarriesOn : {D : Type 0} → (D → Medium) → Type 0
BarrierCarriesOn {D} medium =
    (m : Module) (config : Settings) (promise : Promise) (point : Savepoint m config)
    (before later : JournalState) (records pending : List Record) (last now : ProcessState)
    (old new : D) → IsCarried promise point before records pending last now (medium old)
    → IsJournaled point later (records ++ pending) [] now now (medium new)
    → IsCarried promise point later (records ++ pending) [] now now (medium new)

-- A commit leaves it so, of a worker that is open or recovers, and so does all that fills an area.
abbrev pub CommitCarries : {D : Type 0} → (D → Medium) → Type 0
CommitCarries {D} medium =
    (m : Module) (config : Settings) (less promise : Promise) (point next : Savepoint m config)
    (records : List Record) (more : List Kept) (last : ProcessState) (old new : D)
    → PromisesNoMore less promise → IsHeldAt promise point records last
    → SavesFront promise point next records more last
    → LeavesOnly (medium old) (medium new)
    (λ disk. IsAtSavepoint point records last disk ⊎ BeginsAtPoint next disk)
    → CarriesPromise m config less promise (medium old) (medium new)

-- where it leaves nothing but what is at the old savepoint
abbrev pub SavepointCarries : {D : Type 0} → (D → Medium) → Type 0
SavepointCarries {D} medium =
    (m : Module) (config : Settings) (less promise : Promise) (point : Savepoint m config)
    (records : List Record) (last : ProcessState) (old new : D) → PromisesNoMore less promise
    → IsHeldAt promise point records last
    → LeavesOnly (medium old) (medium new) (IsAtSavepoint point records last)
    → CarriesPromise m config less promise (medium old) (medium new)

-- a creation that has begun, while nothing has been promised
abbrev pub CreationCarries : {D : Type 0} → (D → Medium) → Type 0
CreationCarries {D} medium =
    (m : Module) (config : Settings) (promise : Promise) (point : Savepoint m config)
    (old new : D) → IsNothingYet promise → promise.was_created ≡ true → point.front ≡ []
    → point.saved.lines ≡ 0
    → LeavesOnly (medium old) (medium new) (λ disk. IsBlank disk ⊎ BeginsAtPoint point disk)
    → CarriesPromise m config promise promise (medium old) (medium new)

-- A worker is carried at a savepoint that its disk begins at.
abbrev pub BeginsCarried : {D : Type 0} → (D → Medium) → Type 0
BeginsCarried {D} medium =
    (m : Module) (config : Settings) (promise : Promise) (point : Savepoint m config)
    (journal : JournalState) (disk : D) → IsHeldAt promise point [] point.process
    → IsJournaled point journal [] [] point.process point.process (medium disk)
    → IsCarried promise point journal [] [] point.process point.process (medium disk)
