-- How late a generation the images of a worker's disk may be of.
use Rattle.std.proofs.Common.{ℕ, ◌+◌, ◌≤◌, List, [], ◌∷◌, ◌++◌, length, map, refl, sym, subst}
use Rattle.std.proofs.Common.{⊎_elim, arith}
use Rattle.wasm_syntax.specs.declared.module.Module.{Module}
use Rattle.wasi_abi.specs.rules.Configs.{Settings}
use Rattle.process_rules.specs.Processes.{ProcessState, Guest}
use Rattle.process_rules.specs.Runs.{Kept}
use Rattle.sector_disk.specs.rules.DiskImage.{DiskImage}
use Rattle.sector_disk.specs.rules.Medium.{Medium, LeavesOnly}
use Rattle.sector_disk.proofs.Moments.{started, goes_on, weaker, leaves_only, leaves_weaker}
use Rattle.disk_layout.specs.rules.Places.{geometry_of, total_sectors}
use Rattle.disk_layout.specs.rules.Journal.{Record}
use Rattle.record_replay.specs.rules.Calls.{Ask, Asks}
use Rattle.record_replay.specs.rules.Records.{given_in}
use Rattle.worker_store.specs.restart_theorem.Lives.{Event}
use Rattle.worker_store.specs.restart_theorem.Courses.{Stage}
use Rattle.worker_store.specs.restart_theorem.Promises.{Promise, promised}
use Rattle.worker_store.specs.restart_theorem.Exchanges.{AreEvents, none, asked}
use Rattle.worker_store.specs.restart_theorem.Holds.{IsBounded, KeepsBounds, StaysWithin}
use Rattle.worker_store.proofs.RestartLemmas.Disks.{stands_within}
use Rattle.worker_store.specs.rules.Savepoints.{Savepoint, places, IsAtSavepoint, IsAtFront}
use Rattle.worker_store.specs.rules.Savepoints.{IsNextPoint, BeginsAtPoint, IsAtFrontOrNext}
use Rattle.worker_store.specs.laws.Pieces.{AreDone}
use Rattle.worker_store.proofs.LawLemmas.Points.{point_stands}
use Rattle.worker_store.specs.declared.store.WorkerStore.{WorkerStore}
use Rattle.worker.specs.laws.Bounds.{OpenWorkersKeepBounds, StayingKeepsBounds}
use Rattle.worker.specs.rules.OpenWorkers.{IsOnDisk, identity}

-- ---- an image

-- One that is at a savepoint stands by its generation and its places.
pub point_within : (m : Module) (config : Settings) (point : Savepoint m config)
    (records : List Record) (last : ProcessState) (disk : DiskImage) (latest sectors : ℕ)
    → IsAtSavepoint point records last disk → point.generation ≤ latest
    → total_sectors (places point) ≤ sectors → IsBounded latest sectors disk
point_within m config point records last disk latest sectors at early room =
    let kept : List Kept = point.front ++ map given_in records in
    let by = point_stands m config point records last disk kept at refl in
    stands_within disk m config kept last.steps latest sectors by.stands
    (subst (λ n. n ≤ latest) (sym by.generation) early)
    (subst (λ (bytes : List ℕ). total_sectors (geometry_of config (length bytes)) ≤ sectors)
    (sym by.wasm) room)

-- the same for a later generation
pub within_later : (latest later sectors : ℕ) (disk : DiskImage) → latest ≤ later
    → IsBounded latest sectors disk → IsBounded later sectors disk
within_later latest later sectors disk le is m config kept n stands =
    let bounds = is m config kept n stands in (up_to stands.generation bounds.0, bounds.1)
  where
    up_to : (g : ℕ) → g ≤ latest → g ≤ later
    up_to g below = omega (arith, below, le)

module _ (m : Module) (config : Settings) (point : Savepoint m config) (latest : ℕ)
    (old new : Medium) (room : total_sectors (places point) ≤ old.sectors) where
  -- a cut leaves a prefix of the pending records
  pub fronts_within : (records pending : List Record) (last : ProcessState)
      → point.generation ≤ latest
      → LeavesOnly old new (IsAtFront point records last pending)
      → StaysWithin latest old new
  fronts_within records pending last early leaves =
      leaves_weaker old new (IsAtFront point records last pending)
      (IsBounded latest old.sectors) leaves
      (λ disk at. point_within m config point _ at.process disk latest old.sectors at.at early room)

  -- or the next savepoint
  pub saves_within : (next : Savepoint m config) (records pending : List Record)
      (last : ProcessState) → IsNextPoint point next → point.generation + 1 ≤ latest
      → LeavesOnly old new (IsAtFrontOrNext point next records last pending)
      → StaysWithin latest old new
  saves_within next records pending last comes early leaves =
      leaves_weaker old new (IsAtFrontOrNext point next records last pending)
      (IsBounded latest old.sectors) leaves
      (λ disk at. ⊎_elim
      (λ (front : IsAtFront point records last pending disk).
      point_within m config point _ front.process disk latest old.sectors front.at
      (omega (arith, early)) room)
      (λ (begins : BeginsAtPoint next disk).
      point_within m config next [] next.process disk latest old.sectors begins.at later there)
      at)
    where
      later : next.generation ≤ latest
      later = let one_on = comes.generation in omega (arith, one_on, early)

      there : total_sectors (places next) ≤ old.sectors
      there = subst (λ (bytes : List ℕ).
          total_sectors (geometry_of config (length bytes)) ≤ old.sectors) (sym comes.wasm) room

-- ---- a disk

-- no later one is left where none so late is
pub stays_later : (latest later : ℕ) (old new : Medium) → latest ≤ later
    → StaysWithin latest old new → StaysWithin later old new
stays_later latest later old new le stays =
    leaves_weaker old new (IsBounded latest old.sectors) (IsBounded later old.sectors) stays
    (λ disk is. within_later latest later old.sectors disk le is)

-- it is left alone
pub still_within : (latest : ℕ) (disk : Medium) → KeepsBounds latest disk
    → StaysWithin latest disk disk
still_within latest disk keeps =
    leaves_only disk disk (IsBounded latest disk.sectors)
    (started disk (IsBounded latest disk.sectors)) keeps

-- two parts
pub bounds_join : (first last : ℕ) (old mid new : Medium) → first ≤ last
    → StaysWithin first old mid → StaysWithin last mid new → StaysWithin last old new
bounds_join first last old mid new le one two =
    let x = one.passes in
    let y = two.passes in
    record {
      each = λ image crashed. ⊎_elim
          (λ past. within_later first last old.sectors image le (one.each image past))
          (λ now. there image now)
          (y.nothing_else old.moment image x.later crashed);
      passes = goes_on old mid new (IsBounded last old.sectors) (IsBounded last mid.sectors)
          (weaker old mid (IsBounded first old.sectors) (IsBounded last old.sectors) x
          (λ image is. within_later first last old.sectors image le is)) y there;
    }
  where
    there : (image : DiskImage) → IsBounded last mid.sectors image
        → IsBounded last old.sectors image
    there image is = let x = one.passes in
        subst (λ n. IsBounded last n image) x.sectors is

module _ {D : Type 0} (medium : D → Medium) where
  -- at any moment, and so in the end
  pub staying_keeps_bounds : StayingKeepsBounds medium
  staying_keeps_bounds latest old new stays image crashed =
      let passes = stays.passes in
      subst (λ n. IsBounded latest n image) (sym passes.sectors)
      (stays.each image ((medium new).counts_now (medium old).moment image passes.later crashed))

  -- ---- a worker on its disk

  module _ (m : Module) (config : Settings) (guest : Guest) (promise : Promise)
      (p : ProcessState) (step latest : ℕ) (store : WorkerStore) (disk : D)
      (is : IsOnDisk (identity m config guest) promise p step latest store (medium disk)) where
    pub on_disk_within : KeepsBounds latest (medium disk)
    on_disk_within image crashed =
        let stores = is.stores in
        let journaled = stores.journaled in
        point_within m config is.point is.records is.last image latest (medium disk).sectors
        (journaled.at_savepoint image crashed) is.early stores.sectors

    -- so it is where it is left alone
    pub on_disk_still : (later : ℕ) → latest ≤ later
        → StaysWithin later (medium disk) (medium disk)
    on_disk_still later le =
        stays_later latest later (medium disk) (medium disk) le
        (still_within latest (medium disk) on_disk_within)

  pub open_workers_keep_bounds : OpenWorkersKeepBounds medium
  open_workers_keep_bounds m config guest promise stage p w disk opened =
      on_disk_within m config guest promise p p.steps promise.events w.store disk opened.on_disk

-- ---- what has happened

one_more : (promise : Promise) (ask : Ask) (events : List Event)
    → AreEvents (Asks ask ∷ []) events → promise.events + 1 ≤ (promised promise events).events
one_more promise ask events (asked {steps = steps} {fits = fits} none) = omega arith

-- a question is an event
pub question_counts : (m : Module) (config : Settings) (promise promise' : Promise)
    (stage stage' : Stage) (ask : Ask)
    → AreDone m config promise stage (Asks ask ∷ []) promise' stage'
    → promise.events + 1 ≤ promise'.events
question_counts m config promise promise' stage stage' ask done =
    subst (λ (z : Promise). promise.events + 1 ≤ z.events) (sym done.promised_is)
    (one_more promise ask done.events done.are)
