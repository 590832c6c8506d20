-- What becomes of a store and of its disk by each of its calls (this project's own).
use Rattle.std.specs.Prelude.{◌≡◌, ◌⊎◌, ℕ, ◌+◌, ◌*◌, [], false, true, length, Result, OnOk, OnErr}
use Rattle.std.specs.Prelude.{IfOk, IfErr}
use Rattle.process.specs.rules.Values.{ProcessValue}
use Rattle.state_image.specs.rules.Saving.{saved_of}
use Rattle.sector_disk.specs.rules.DiskImage.{DiskImage}
use Rattle.sector_disk.specs.rules.Medium.{Medium, CallsUpTo, CountsUpTo, IsAllSynced}
use Rattle.sector_disk.specs.rules.Medium.{PerformsCalls, Passes}
use Rattle.disk_layout.specs.declared.geometry.Geometry.{Geometry}
use Rattle.journal.specs.rules.Packed.{sectors_for}
use Rattle.journal.specs.rules.State.{state}
use Rattle.journal.specs.rules.Steps.{barrier_calls}
use Rattle.worker_store.specs.declared.fault.StoreFault.{StoreFault}
use Rattle.worker_store.specs.declared.store.WorkerStore.{WorkerStore}
use Rattle.worker_store.specs.rules.Calls.{LeavesFronts, StoresAll, BarrierFails, LeavesOneOfTwo}
use Rattle.worker_store.specs.rules.Calls.{StoresNext, CommitCalls, CommitFails, LeavesBeforeOrNext}
use Rattle.worker_store.specs.rules.Calls.{LeavesPointOrNext, StoresAgain, ReopeningFails}
use Rattle.worker_store.specs.rules.Stores.{IsOfStore, begun_store, with_stored, failed_store}

-- The records that are pending are put on the disk, and synced.
pub record StoresPending (before after : WorkerStore) (result : Result (Unit {0}) StoreFault)
    (old new : Medium) : Type 0 where
  -- a cut at any moment leaves a prefix of them after those that stood before
  pub any_moment : LeavesFronts before old new
  -- once it has answered Ok, each cut leaves all of them
  pub durable : OnOk result (StoresAll before after old new)
  pub stored : OnOk result (after ≡ with_stored before)
  -- then no write waits for a sync, unless none was pending
  pub all_synced : OnOk result ((length before.journal.kept ≡ 0) ⊎ IsAllSynced new)
  -- each of their sectors is written once, in rising order, and then there is one sync; after an
  -- error these calls are begun
  pub calls : PerformsCalls (barrier_calls before.geometry before.journal) result old new
  pub cause : IfErr result (λ e. BarrierFails before old new e)
  -- after an error the store has failed, and its places and its generation stay in any case
  pub fails : OnErr result (after.journal.has_failed ≡ true)
  pub stays : IsOfStore before after
  -- time goes on, and the disk has as many sectors and as much room
  pub passes : Passes old new (λ _. Unit {0})
  -- no more calls than the disk has sectors
  pub asks : CallsUpTo old.sectors old new
  -- at no moment were there more unsynced writes than before and these
  pub counts : CountsUpTo (old.unsynced + sectors_for (length before.journal.kept)) old new

-- The image of this process is put on the disk, as the next generation, and its journal begins.
pub record CommitsProcess (process : ProcessValue) (before after : WorkerStore)
    (result : Result (Unit {0}) StoreFault) (old new : Medium) : Type 0 where
  -- a cut at any moment leaves what stood before, or this snapshot
  pub any_moment : LeavesOneOfTwo before process old new
  -- once it has answered Ok, each cut leaves this snapshot
  pub durable : OnOk result (StoresNext before after process old new)
  -- sectors of the image, a sync, the head, and a sync; after an error these calls are begun
  pub calls : CommitCalls before.geometry (before.journal.generation + 1) process result old new
  pub cause : IfErr result (λ e. CommitFails before process old new e)
  -- after an error the store has failed, and is else as before; its places stay in any case
  pub fails : OnErr result (after.journal.has_failed ≡ true)
  pub unchanged : OnErr result (after ≡ failed_store before)
  pub stays : after.geometry ≡ before.geometry
  -- after Ok a generation begins, in the version of the process
  pub numbered : OnOk result (after.journal.generation ≡ before.journal.generation + 1)
  pub fresh : OnOk result (after.journal
      ≡ state (saved_of process).version after.journal.generation 0 [] false)
  pub begun : OnOk result (after ≡ begun_store before.geometry (saved_of process).version
      (before.journal.generation + 1))
  -- then no write waits for a sync
  pub all_synced : OnOk result (IsAllSynced new)
  -- time goes on, and the disk has as many sectors and as much room
  pub passes : Passes old new (λ _. Unit {0})
  pub asks : CallsUpTo (old.sectors + 2) old new
  -- at no moment were there more unsynced writes than before, an area's, and the head
  pub counts : CountsUpTo (old.unsynced + before.geometry.area_sectors + 1) old new

-- Of whatever stands for a worker this process is committed as this generation.
pub record ReopensStore (geometry : Geometry) (generation : ℕ) (process : ProcessValue)
    (result : Result WorkerStore StoreFault) (old new : Medium) : Type 0 where
  -- a cut at any moment leaves what stands for the same answers, or this snapshot
  pub any_moment : LeavesBeforeOrNext geometry generation process old new
  pub point_or_next : LeavesPointOrNext geometry generation process old new
  -- no image comes of none
  pub some : (image : DiskImage) → new.crash_images image → (before : DiskImage)
      × old.crash_images before
  -- once it has answered Ok, each cut leaves this snapshot
  pub durable : IfOk result (λ store. StoresAgain geometry generation process store old new)
  -- after Ok the generation begins, in the version of the process
  pub begun : IfOk result (λ store.
      store ≡ begun_store geometry (saved_of process).version generation)
  pub numbered : IfOk result (λ store. store.journal.generation ≡ generation)
  pub placed : IfOk result (λ store. store.geometry ≡ geometry)
  -- time goes on, and the disk has as many sectors and as much room
  pub passes : Passes old new (λ _. Unit {0})
  -- sectors of the image, a sync, the head, and a sync; after an error these calls are begun
  pub calls : CommitCalls geometry generation process result old new
  pub cause : IfErr result (λ e. ReopeningFails geometry generation process old new e)
  -- two calls for each sector of an area at most, and five
  pub asks : CallsUpTo (2 * geometry.area_sectors + 5) old new
  -- at no moment were there more unsynced writes than before, an area's, and the head
  pub counts : CountsUpTo (old.unsynced + geometry.area_sectors + 1) old new
