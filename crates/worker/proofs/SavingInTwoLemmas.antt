-- A barrier and a commit, and between them the process is put into version 2.
use Rattle.std.proofs.Common.{◌≡◌, ℕ, ◌+◌, ◌*◌, ◌<◌, ◌≤◌, ◌++◌, length, refl, sym, subst, inl, inr}
use Rattle.std.proofs.Common.{arith}
use Rattle.std.specs.Prelude.{Result, Ok, Err, IfErr}
use Rattle.wasi_abi.specs.declared.numbers.TheConstants.{NUMBERS_END}
use Rattle.process.specs.rules.Values.{ProcessValue}
use Rattle.state_image.specs.rules.ProcessImage.{process_image}
use Rattle.state_image.specs.rules.Saving.{saved_of}
use Rattle.sector_disk.specs.declared.sector.TheConstants.{SECTOR_SIZE}
use Rattle.sector_disk.specs.rules.Medium.{Medium}
use Rattle.disk_layout.specs.declared.geometry.Geometry.{Geometry}
use Rattle.journal.specs.rules.Steps.{barrier_calls}
use Rattle.worker_store.specs.declared.fault.StoreFault.{StoreFault}
use Rattle.worker_store.specs.declared.fault.StoreFault.TheVariants as store
use Rattle.worker_store.specs.declared.store.WorkerStore.{WorkerStore}
use Rattle.worker_store.specs.rules.Calls.{LeavesFronts, StoresAll, LeavesOneOfTwo, CommitFails}
use Rattle.worker_store.specs.rules.Stores.{IsOfStore}
use Rattle.worker.specs.rules.WorkFaults.{fault_of_store}
use Rattle.worker.specs.Savings.{HasSaveCause}
use Rattle.worker.specs.rules.Upgrades.{upgraded}
use Rattle.worker.specs.StoreTurns.{StoreGoes, StoreStops}
use Rattle.worker.specs.Upgrading.{AfterFault, BarsAndCommits}
use Rattle.worker.proofs.StoreTurnLemmas.{goes_stop}

-- ---- what an error leaves

pub fault_same : (fault : StoreFault) (before : WorkerStore) (v : ProcessValue)
    → AfterFault fault before v v
fault_same store.TooBig before v = inl refl
fault_same store.Full before v = refl
fault_same store.TooLong before v = refl
fault_same store.Damaged before v = refl
fault_same (store.Layout why) before v = refl
fault_same (store.Disk why) before v = inl refl
fault_same store.Memory before v = refl
fault_same store.Failed before v = inl refl

-- where the commit failed, though the next generation has a number
module _ (before between : WorkerStore) (v w : ProcessValue) (mid new : Medium)
    (stays : IsOfStore before between) (same : w ≡ upgraded v)
    (counted : between.journal.generation + 1 < NUMBERS_END) where
  fault_committing : (fault : StoreFault) → CommitFails between w mid new fault
      → AfterFault fault before v w
  fault_committing store.TooBig (inl late) = absurd (omega (arith, late, counted))
  fault_committing store.TooBig (inr long) =
      inr (
        same,
        (let numbered = stays.generation in omega (arith, counted, numbered)),
        subst (λ (g : Geometry). SECTOR_SIZE * g.area_sectors < length (process_image (saved_of w)))
            stays.geometry long,
      )
  fault_committing store.Full fails = absurd fails
  fault_committing store.TooLong fails = absurd fails
  fault_committing store.Damaged fails = absurd fails
  fault_committing (store.Layout why) fails = absurd fails
  fault_committing (store.Disk why) fails = inr same
  fault_committing store.Memory fails = absurd fails
  fault_committing store.Failed fails = inr same

  pub fault_of_commit : (result : Result (Unit {0}) StoreFault)
      → IfErr result (λ e. CommitFails between w mid new e)
      → IfErr result (λ e. AfterFault e before v w)
  fault_of_commit (Ok done) fails = tt
  fault_of_commit (Err fault) fails = fault_committing fault fails

-- ---- a generation without a number

module _ (before between : WorkerStore) (v : ProcessValue) (old mid : Medium) (generation : ℕ)
    (is : generation ≡ between.journal.generation) (stays : IsOfStore before between)
    (late : NUMBERS_END ≤ generation + 1) where
  pub late_cause : (fault : StoreFault) → fault ≡ store.TooBig
      → HasSaveCause before v old mid fault
  late_cause fault same = subst (λ (e : StoreFault). HasSaveCause before v old mid e) (sym same)
      (let numbered = stays.generation in inl (omega (arith, is, numbered, late)))

pub late_runs : (before between : WorkerStore) (old mid : Medium)
    → StoreGoes before between old mid → (fault : StoreFault) → fault ≡ store.TooBig
    → StoreStops before between (fault_of_store fault) old mid
late_runs before between old mid went fault same =
    subst (λ (e : StoreFault). StoreStops before between (fault_of_store e) old mid) (sym same)
    (goes_stop before between old mid went (fault_of_store store.TooBig) tt)

-- ---- its moments

pub bars_and_commits : {D : Type 0} (medium : D → Medium) (before between : WorkerStore)
    (v w : ProcessValue) (old mid new : D)
    → (medium mid).calls ≡ barrier_calls before.geometry before.journal ++ (medium old).calls
    → LeavesFronts before (medium old) (medium mid)
    → StoresAll before between (medium old) (medium mid) → w ≡ upgraded v
    → LeavesOneOfTwo between w (medium mid) (medium new)
    → BarsAndCommits medium before v w old new
bars_and_commits medium before between v w old mid new calls fronts stores same commits =
    inr (mid, between, same, calls, fronts, stores, commits)
