-- A barrier and a commit, one after the other, by which a worker is saved.
use Rattle.std.specs.Prelude.{◌≡◌, ◌⊎◌, ℕ, List, [], ◌++◌, length}
use Rattle.wasm_syntax.specs.declared.module.Module.{Module}
use Rattle.wasi_abi.specs.rules.Configs.{Settings}
use Rattle.process_rules.specs.Processes.{ProcessState}
use Rattle.process_rules.specs.Runs.{Kept}
use Rattle.state_image.specs.rules.ProcessImage.{Saved}
use Rattle.sector_disk.specs.rules.Medium.{Medium, LeavesOnly}
use Rattle.disk_layout.specs.rules.Journal.{Record}
use Rattle.journal.specs.rules.State.{JournalState}
use Rattle.worker_store.specs.restart_theorem.Lives.{Act, Reply, Done, Fails, Cause, Ended}
use Rattle.worker_store.specs.restart_theorem.Promises.{Promise, after, synced_by}
use Rattle.worker_store.specs.restart_theorem.Holds.{CarriesPromise}
use Rattle.worker_store.specs.rules.Savepoints.{Savepoint, IsAtSavepoint, IsAtFront, BeginsAtPoint}
use Rattle.worker_store.specs.rules.Savepoints.{IsJournaled, LeavesAll, IsAtFrontOrNext}
use Rattle.worker_store.specs.laws.Acts.{SavesWith, keeping_more}
use Rattle.worker_store.specs.rules.Carried.{IsHeldAt, IsCarried, count_at, SyncsAreHeld}
use Rattle.worker_store.specs.laws.Carried.{PromisesNoMore, SavesFront}

-- A cut at any moment of a barrier, and then of a commit, leaves a prefix of the pending records,
-- or the next savepoint.
abbrev pub SaveAtAnyMoment : {D : Type 0} → (D → Medium) → Type 0
SaveAtAnyMoment {D} medium =
    (m : Module) (config : Settings) (point next : Savepoint m config) (journal : JournalState)
    (records pending : List Record) (last now : ProcessState) (old mid new : D)
    → IsJournaled point journal records pending last now (medium old)
    → LeavesOnly (medium old) (medium mid) (IsAtFront point records last pending)
    → LeavesOnly (medium mid) (medium new)
    (λ disk. IsAtSavepoint point (records ++ pending) now disk ⊎ BeginsAtPoint next disk)
    → LeavesOnly (medium old) (medium new) (IsAtFrontOrNext point next records last pending)

-- It holds what is promised, whatever less was promised when the call began.
abbrev pub SaveCarries : {D : Type 0} → (D → Medium) → Type 0
SaveCarries {D} medium =
    (m : Module) (config : Settings) (less promise : Promise) (point next : Savepoint m config)
    (journal : JournalState) (records pending : List Record) (more : List Kept)
    (last now : ProcessState) (old new : D) → PromisesNoMore less promise
    → IsCarried promise point journal records pending last now (medium old)
    → SavesFront promise point next (records ++ pending) more now
    → LeavesOnly (medium old) (medium new) (IsAtFrontOrNext point next records last pending)
    → CarriesPromise m config less promise (medium old) (medium new)

-- ---- by an act

-- An act saves the process shown, which is that of the next savepoint. That has all that is kept
-- then: these besides what was promised. The records of the last savepoint lead to the process now.
pub record IsSavingAt {m : Module} {config : Settings} (promise : Promise) (act : Act)
    (more : List Kept) (shown : Saved) (point next : Savepoint m config) (records : List Record)
    (now : ProcessState) : Type 0 where
  pub saves : SavesWith promise act more shown
  pub saved : next.saved ≡ shown
  pub all : next.front ≡ promise.kept ++ more
  pub front : SavesFront (keeping_more promise more) point next records more now

-- what an act that is done promises of a worker whose process is shown
abbrev pub promise_saved : Promise → Act → List Kept → Saved → Promise
promise_saved promise act more shown =
    after promise (Ended act Done (length (promise.kept ++ more)) shown)

-- The disk of a worker that is saved holds that too.
pub record IsSavedBy {m : Module} {config : Settings} (promise : Promise) (act : Act)
    (more : List Kept) (shown : Saved) (next : Savepoint m config) (old new : Medium)
    : Type 0 where
  pub carries : CarriesPromise m config promise (promise_saved promise act more shown) old new
  pub held : IsHeldAt (promise_saved promise act more shown) next [] next.process

-- So it is after an act whose worker was carried, with what is kept besides.
abbrev pub DoneSavesCarry : {D : Type 0} → (D → Medium) → Type 0
DoneSavesCarry {D} medium =
    (m : Module) (config : Settings) (promise : Promise) (act : Act) (more : List Kept)
    (shown : Saved) (point next : Savepoint m config) (journal : JournalState)
    (records pending : List Record) (last now : ProcessState) (old new : D)
    → IsSavingAt promise act more shown point next (records ++ pending) now
    → IsCarried (keeping_more promise more) point journal records pending last now (medium old)
    → LeavesOnly (medium old) (medium new) (IsAtFrontOrNext point next records last pending)
    → LeavesAll (medium new) (IsAtSavepoint next [] next.process)
    → IsSavedBy promise act more shown next (medium old) (medium new)

-- After an error it holds what the end promises then, where no sync of the guest that has returned
-- needs an answer that isn't on the disk.
abbrev pub FailedSavesCarry : {D : Type 0} → (D → Medium) → Type 0
FailedSavesCarry {D} medium =
    (m : Module) (config : Settings) (promise : Promise) (act : Act) (more : List Kept)
    (shown : Saved) (cause : Cause) (held : ℕ) (point next : Savepoint m config)
    (journal : JournalState) (records pending : List Record) (last now : ProcessState)
    (old new : D) → IsSavingAt promise act more shown point next (records ++ pending) now
    → IsCarried (keeping_more promise more) point journal records pending last now (medium old)
    → SyncsAreHeld m config (promise.kept ++ more) (count_at point records)
    (synced_by (Fails cause) shown.steps)
    → LeavesOnly (medium old) (medium new) (IsAtFrontOrNext point next records last pending)
    → CarriesPromise m config promise (after promise (Ended act (Fails cause) held shown))
    (medium old) (medium new)

-- The end of a call takes no promise back.
abbrev pub EndsPromiseNoLess : Type 0
EndsPromiseNoLess =
    (promise : Promise) (act : Act) (reply : Reply) (held : ℕ) (shown : Saved)
    → PromisesNoMore promise (after promise (Ended act reply held shown))
