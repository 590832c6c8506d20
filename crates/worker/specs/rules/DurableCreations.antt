-- A worker that is created on a disk (this project's own).
use Rattle.std.specs.Prelude.{◌≡◌, ◌⊎◌, ℕ, ◌+◌, ◌*◌, ◌<◌, ◌≤◌, List, [], ◌∷◌, ◌++◌, length, false}
use Rattle.std.specs.Prelude.{true, Result, Ok, Err}
use Rattle.wasm_syntax.specs.declared.module.Module.{Module}
use Rattle.wasm_rules.specs.Acceptance.{IsAccepted}
use Rattle.wasi_abi.specs.rules.Configs.{Settings}
use Rattle.machine.specs.rules.Offers.{offer}
use Rattle.process_rules.specs.Processes.{ProcessState, Guest}
use Rattle.process.specs.rules.Values.{HasStarted}
use Rattle.state_image.specs.rules.ProcessImage.{process_image}
use Rattle.state_image.specs.rules.Saving.{saved_of}
use Rattle.sector_disk.specs.declared.sector.TheConstants.{SECTOR_SIZE}
use Rattle.sector_disk.specs.rules.DiskImage.{DiskImage}
use Rattle.sector_disk.specs.rules.Medium.{Medium, BeginsCalls, CallsUpTo, spare}
use Rattle.disk_layout.specs.declared.fault.LayoutFault.TheVariants.{TooSmall}
use Rattle.disk_layout.specs.declared.geometry.Geometry.{Geometry}
use Rattle.disk_layout.specs.rules.Places.{geometry_of, total_sectors}
use Rattle.disk_layout.specs.rules.Unsynced.{most_unsynced}
use Rattle.disk_layout.specs.rules.Sectors.{HasWorker}
use Rattle.worker_store.specs.restart_theorem.Between.{FindsNoWorker}
use Rattle.worker_store.specs.restart_theorem.Lives.{Inputs, Opened, Creates}
use Rattle.worker_store.specs.restart_theorem.Courses.{at_beginning, next_stage}
use Rattle.worker_store.specs.restart_theorem.Promises.{Promise, after, AreKept, OpensAnew}
use Rattle.worker_store.specs.restart_theorem.Holds.{IsNothingYet, CarriesPromise, StaysWithin}
use Rattle.worker_store.specs.declared.fault.StoreFault.TheVariants as store
use Rattle.worker_store.specs.rules.Creations.{creation_calls}
use Rattle.record_replay.specs.rules.Faults.{IsRefusedByWorker}
use Rattle.worker.specs.declared.fault.WorkFault.{WorkFault}
use Rattle.worker.specs.declared.fault.WorkFault.TheVariants.{Work, Disk, Store}
use Rattle.worker.specs.rules.CallCounts.{most_creating}
use Rattle.worker.specs.rules.DurableValues.{DurableValue}
use Rattle.worker.specs.rules.OpenWorkers.{IsOpenOn}

-- where things lie on the disk of a worker of these bytes
abbrev pub places_for : Settings → List ℕ → Geometry
places_for config bytes = geometry_of config (length bytes)

-- ---- without a promise

-- The bytes spell an accepted module, and the worker is at its start, in generation 1. These very
-- bytes and this configuration are on the disk, which has all sectors of the worker.
pub record IsCreatedOn (bytes : List ℕ) (config : Settings) (w : DurableValue) (disk : Medium)
    : Type 0 where
  pub spelled : Module
  pub accepted : IsAccepted offer config.pages bytes spelled
  pub started : HasStarted spelled config w.process
  pub generation : w.store.journal.generation ≡ 1
  pub none_replayed : w.replayed ≡ 0
  pub unfailed : w.has_failed ≡ false
  pub abreast : w.is_abreast ≡ true
  pub geometry : w.store.geometry ≡ places_for config bytes
  pub contents : (image : DiskImage) → disk.crash_images image → HasWorker config bytes image
  pub room : total_sectors w.store.geometry ≤ disk.sectors

-- When each error comes. The module isn't accepted, or the host has no room. Or the disk has too
-- few sectors. Or it failed, or it surely takes too few writes between two syncs.
abbrev pub IsNotCreatedOn : List ℕ → Settings → Medium → Medium → WorkFault → Type 0
IsNotCreatedOn bytes config old new (Work why) = IsRefusedByWorker config.pages bytes why
IsNotCreatedOn bytes config old new (Store (store.Layout TooSmall)) =
    old.sectors < total_sectors (places_for config bytes)
IsNotCreatedOn bytes config old new (Disk fault) = (spare old ≡ 0)
    ⊎ (old.room < most_unsynced (places_for config bytes)) ⊎ (old.faults < new.faults)
IsNotCreatedOn bytes config old new other = ⊥

-- the module or the disk is refused, or the host has no room, before anything is written
abbrev pub IsRefusedAtFirst : WorkFault → Type 0
IsRefusedAtFirst (Work why) = Unit {0}
IsRefusedAtFirst (Store why) = Unit {0}
IsRefusedAtFirst other = ⊥

-- The disk is laid out by these calls alone, for an image that fits into its area. After an error
-- they are begun.
abbrev pub CreationCalls : List ℕ → Settings → Result DurableValue WorkFault → Medium → Medium
    → Type 0
CreationCalls bytes config (Ok w) old new = new.calls
    ≡ creation_calls (places_for config bytes) (length (process_image
    (saved_of w.process))) ++ old.calls
CreationCalls bytes config (Err why) old new = (count : ℕ)
    × (count ≤ SECTOR_SIZE * (places_for config bytes).area_sectors)
    × BeginsCalls (creation_calls (places_for config bytes) count) old new

-- ---- what is promised

-- A cut at any moment leaves no worker, or one that has begun. That holds all that is promised, is
-- of a generation with an event of its own, and has all its sectors on the disk. It takes few
-- calls.
pub record LeavesCreation (m : Module) (config : Settings) (promise now : Promise)
    (old new : Medium) : Type 0 where
  pub carried : CarriesPromise m config promise now old new
  pub bounded : StaysWithin (promise.events + 1) old new
  pub counted : CallsUpTo (most_creating old.sectors) old new

-- A life has opened with this worker, which has taken and told nothing. It is open on the disk,
-- whatever stood there before.
pub record OpensOn (m : Module) (config : Settings) (promise : Promise) (inputs : Inputs)
    (w : DurableValue) (old new : Medium) : Type 0 where
  pub guest : Guest
  pub process : ProcessState
  pub kept : AreKept m config promise (at_beginning Creates inputs)
      (Opened 0 (saved_of w.process) ∷ [])
  pub anew : OpensAnew (Opened 0 (saved_of w.process) ∷ [])
  pub opened : IsOpenOn m config guest (after promise (Opened 0 (saved_of w.process)))
      (next_stage (at_beginning Creates inputs) (Opened 0 (saved_of w.process))) process w new
  pub leaves : FindsNoWorker old
      → LeavesCreation m config promise (after promise (Opened 0 (saved_of w.process))) old new

-- After an error nothing is promised of what a creation has left where no worker was.
abbrev pub OpensOrNot : Module → Settings → Promise → Inputs → Result DurableValue WorkFault
    → Medium → Medium → Type 0
OpensOrNot m config promise inputs (Ok w) old new = OpensOn m config promise inputs w old new
OpensOrNot m config promise inputs (Err why) old new =
    FindsNoWorker old → LeavesCreation m config promise promise old new

-- So it is of the module that these bytes spell, where nothing was promised before, and the
-- creation counts as begun.
abbrev pub CreationKeeps : List ℕ → Settings → Result DurableValue WorkFault → Medium → Medium
    → Type 0
CreationKeeps bytes config result old new =
    (m : Module) (promise : Promise) (inputs : Inputs) → IsAccepted offer config.pages bytes m
    → IsNothingYet promise → promise.was_created ≡ true
    → OpensOrNot m config promise inputs result old new
