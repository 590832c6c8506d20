-- A barrier, and then a commit.
use Rattle.std.proofs.Common.{◌≡◌, ◌+◌, ◌≤◌, [], ◌++◌, length, sym, subst, inl, arith}
use Rattle.std.specs.Prelude.{Result, Err}
use Rattle.process.specs.rules.Values.{ProcessValue}
use Rattle.state_image.specs.rules.ProcessImage.{process_image}
use Rattle.state_image.specs.rules.Saving.{saved_of}
use Rattle.sector_disk.specs.rules.Medium.{Medium, BeginsCalls, Passes}
use Rattle.sector_disk.proofs.CallLemmas.{begun_first, performed_then}
use Rattle.sector_disk.proofs.Moments.{leaves_weaker}
use Rattle.disk_layout.specs.declared.geometry.Geometry.{Geometry}
use Rattle.disk_layout.specs.rules.Places.{area_place, rounded_up, total_sectors}
use Rattle.journal.specs.rules.Steps.{barrier_calls}
use Rattle.snapshot.specs.rules.Calls.{with_head}
use Rattle.snapshot.proofs.StoreCalls.{some_none}
use Rattle.worker_store.specs.rules.Savepoints.{IsAtFront, IsAtFrontOrNext}
use Rattle.worker_store.proofs.LawLemmas.Saving.{save_at_any_moment}
use Rattle.worker_store.specs.declared.fault.StoreFault.{StoreFault}
use Rattle.worker_store.specs.declared.store.WorkerStore.{WorkerStore}
use Rattle.worker_store.specs.rules.Calls.{LeavesFronts, StoresAll, LeavesOneOfTwo}
use Rattle.worker_store.specs.rules.Calls.{StoresNext, CommitCalls}
use Rattle.worker_store.specs.rules.Stores.{IsOfStore}
use Rattle.worker.specs.Savings.{LeavesFrontOrNext, SaveCalls}

-- ---- moments

module _ {D : Type 0} (medium : D → Medium) (before : WorkerStore) (process : ProcessValue)
    (old mid : D) (fronts : LeavesFronts before (medium old) (medium mid)) where
  pub barrier_saves : LeavesFrontOrNext before process (medium old) (medium mid)
  barrier_saves m config point next records pending last now is comes saved =
      leaves_weaker (medium old) (medium mid) (IsAtFront point records last pending)
      (IsAtFrontOrNext point next records last pending)
      (fronts m config point records pending last now is) (λ disk at. inl at)

  module _ (between : WorkerStore) (new : D)
      (stores : StoresAll before between (medium old) (medium mid)) where
    pub commit_saves : LeavesOneOfTwo between process (medium mid) (medium new)
        → LeavesFrontOrNext before process (medium old) (medium new)
    commit_saves leaves m config point next records pending last now is comes saved =
        save_at_any_moment medium m config point next before.journal records pending last now old
        mid new is.journaled (fronts m config point records pending last now is)
        (leaves m config point next (records ++ pending) [] now now
        (stores m config point records pending last now is) comes saved)

    pub commit_saved : (after : WorkerStore)
        → StoresNext between after process (medium mid) (medium new)
        → StoresNext before after process (medium old) (medium new)
    commit_saved after next_stores m config point next records pending last now is comes saved =
        next_stores m config point next (records ++ pending) [] now now
        (stores m config point records pending last now is) comes saved

-- ---- calls

pub barrier_calls_begun : {T : Type 0} (before : WorkerStore) (process : ProcessValue)
    (fault : StoreFault) (old mid : Medium)
    → BeginsCalls (barrier_calls before.geometry before.journal) old mid
    → SaveCalls {T = T} before process (Err fault) old mid
barrier_calls_begun before process fault old mid begun = (
  [],
  some_none (area_place before.geometry (before.journal.generation + 1))
      (rounded_up (length (process_image (saved_of process)))),
  record {
    all = tt;
    begun = begun_first (barrier_calls before.geometry before.journal)
        (with_head (before.journal.generation + 1) []) old mid begun;
  },
)

pub commit_calls_behind : (before between : WorkerStore) (process : ProcessValue)
    (result : Result (Unit {0}) StoreFault) (old mid new : Medium) → IsOfStore before between
    → mid.calls ≡ barrier_calls before.geometry before.journal ++ old.calls
    → CommitCalls between.geometry (between.journal.generation + 1) process result mid new
    → SaveCalls before process result old new
commit_calls_behind before between process result old mid new stays made calls =
    let here : CommitCalls before.geometry (before.journal.generation + 1) process result mid new =
    subst (λ (g : Geometry).
    CommitCalls g (before.journal.generation + 1) process result mid new) stays.geometry
    (subst (λ n. CommitCalls between.geometry (n + 1) process result mid new) stays.generation
    calls) in (
      here.0,
      here.1,
      performed_then (barrier_calls before.geometry before.journal)
          (with_head (before.journal.generation + 1) here.0) result old mid new made here.2,
    )

-- the disk has room for the store
pub still_room : (before between : WorkerStore) (old mid : Medium) → IsOfStore before between
    → Passes old mid (λ image. Unit {0}) → total_sectors before.geometry ≤ old.sectors
    → total_sectors between.geometry ≤ mid.sectors
still_room before between old mid stays passes room =
    let same = passes.sectors in
    subst (λ (g : Geometry). total_sectors g ≤ mid.sectors) (sym stays.geometry)
    (omega (arith, room, same))
