-- What a barrier leaves of its store and disk, its calls beside what was owed among it.
use Rattle.std.proofs.Common.{◌≡◌, ◌≤◌, ◌+◌, length, ap, refl, arith, Ok, Err}
use Rattle.sector_disk.specs.rules.Medium.{Medium, CallsUpTo}
use Rattle.disk_layout.specs.rules.Places.{total_sectors}
use Rattle.worker_store.specs.declared.fault.StoreFault.{StoreFault}
use Rattle.worker_store.specs.declared.store.WorkerStore.{WorkerStore}
use Rattle.worker_store.specs.rules.Effects.{StoresPending}
use Rattle.worker_store.specs.rules.Stores.{with_stored}
use Rattle.worker.specs.declared.fault.WorkFault.{WorkFault}
use Rattle.worker.specs.rules.WorkFaults.{fault_of_store}
use Rattle.worker.specs.StoreTurns.{HasTurnCause, LeavesStore, owed}
use Rattle.worker.proofs.CallCountLemmas.{barrier_takes, barrier_owes_none}
use Rattle.worker.proofs.StoreTurnLemmas.{RefusesMore, barrier_failed, barrier_went, goes_none}
use Rattle.worker.proofs.StoreTurnLemmas.{goes_stop}

module _ {D : Type 0} (medium : D → Medium) (old : WorkerStore) (disk disk' : D)
    (quiet : length old.journal.kept ≡ 0 → disk' ≡ disk)
    (calls : CallsUpTo (medium disk).sectors (medium disk) (medium disk')) where
  pub paid_in_vain : (medium disk').counted
      ≤ (medium disk).counted + owed (medium disk).sectors old.journal.kept
  paid_in_vain =
      barrier_takes (medium disk).sectors old.journal.kept (medium disk).counted
      (medium disk').counted
      (λ none. ap (λ (d : D). (medium d).counted) (quiet none)) calls

pub paid : {D : Type 0} (medium : D → Medium) (old new : WorkerStore) (disk disk' : D)
    → (length old.journal.kept ≡ 0 → disk' ≡ disk)
    → CallsUpTo (medium disk).sectors (medium disk) (medium disk') → new ≡ with_stored old
    → (medium disk').counted + owed (medium disk).sectors new.journal.kept
    ≤ (medium disk).counted + owed (medium disk).sectors old.journal.kept
paid medium old new disk disk' quiet calls stored =
    barrier_owes_none (medium disk).sectors old.journal.kept new.journal.kept
    (medium disk).counted (medium disk').counted
    (ap (λ (s : WorkerStore). s.journal.kept) stored)
    (paid_in_vain medium old disk disk' quiet calls)

-- ---- all of it

-- where nothing is done
pub leaves_none : (store : WorkerStore) (disk : Medium)
    → LeavesStore {T = Unit {0}} (Ok tt) store store disk disk
leaves_none store disk = record {
  runs = goes_none store disk;
  pays = omega arith;
  places = refl;
  sectors = refl;
}

module _ {D : Type 0} (medium : D → Medium) (old new : WorkerStore) (disk disk' : D)
    (quiet : length old.journal.kept ≡ 0 → disk' ≡ disk) where
  -- a barrier that has failed
  pub failed_barrier_leaves : (fault : StoreFault)
      → StoresPending old new (Err fault) (medium disk) (medium disk')
      → RefusesMore medium old disk disk' (Err fault)
      → total_sectors old.geometry ≤ (medium disk).sectors
      → LeavesStore {T = Unit {0}} (Err (fault_of_store fault)) old new (medium disk) (medium disk')
  failed_barrier_leaves fault stores full enough =
      let stops = barrier_failed medium old new disk disk' fault stores full enough in
      record {
        runs = stops;
        pays = paid_in_vain medium old disk disk' quiet stores.asks;
        places = stops.geometry;
        sectors = (let passes = stops.passes in passes.sectors);
      }

  module _ (done : Unit {0}) (stores : StoresPending old new (Ok done) (medium disk) (medium disk'))
      (full : RefusesMore medium old disk disk' (Ok done)) where
    -- one that has not
    pub barrier_leaves : LeavesStore {T = Unit {0}} (Ok tt) old new (medium disk) (medium disk')
    barrier_leaves =
        let goes = barrier_went medium old new disk disk' done stores full quiet in
        record {
          runs = goes;
          pays = paid medium old new disk disk' quiet stores.asks stores.stored;
          places = goes.geometry;
          sectors = (let passes = goes.passes in passes.sectors);
        }

    -- behind it something else has failed
    pub barrier_leaves_then : (why : WorkFault)
        → HasTurnCause old (medium disk) (medium disk') why
        → LeavesStore {T = Unit {0}} (Err why) old new (medium disk) (medium disk')
    barrier_leaves_then why cause =
        let goes = barrier_went medium old new disk disk' done stores full quiet in
        record {
          runs = goes_stop old new (medium disk) (medium disk') goes why cause;
          pays = paid_in_vain medium old disk disk' quiet stores.asks;
          places = goes.geometry;
          sectors = (let passes = goes.passes in passes.sectors);
        }
