-- The next generation of a recovered worker: a savepoint of the process at hand.
use Rattle.std.proofs.Common.{◌≡◌, ◌⊎◌, inl, inr, ⊎_elim, ℕ, ◌+◌, ◌≤◌, List, [], length, refl, sym}
use Rattle.std.proofs.Common.{ap, ◌∙◌, subst, arith, append-nil, is_some}
use Rattle.std.specs.Prelude.{Result, Ok, Err}
use Rattle.wasm_syntax.specs.declared.module.Module.{Module}
use Rattle.wasi_abi.specs.declared.numbers.TheConstants.{NUMBERS_END}
use Rattle.wasi_abi.specs.rules.Configs.{Settings}
use Rattle.process_rules.specs.Processes.{ProcessState}
use Rattle.process_rules.specs.Runs.{none as no_step}
use Rattle.process.specs.rules.Values.{ProcessValue, IsProcess}
use Rattle.sector_disk.specs.rules.DiskImage.{DiskImage}
use Rattle.sector_disk.specs.rules.Medium.{Medium, LeavesOnly, Passes, CallsUpTo, CountsUpTo}
use Rattle.sector_disk.proofs.CountLemmas.{counts_same}
use Rattle.sector_disk.proofs.Moments.{leaves_only, started}
use Rattle.disk_layout.specs.declared.geometry.Geometry.{Geometry}
use Rattle.disk_layout.specs.rules.Places.{geometry_of, total_sectors}
use Rattle.disk_layout.specs.rules.Journal.{Record, TakesRecords}
use Rattle.state_image.specs.rules.Saving.{saved_of}
use Rattle.record_replay.specs.declared.fault.ReplayFault.{ReplayFault}
use Rattle.record_replay.specs.rules.Calls.{Taking}
use Rattle.record_replay.specs.rules.Replays.{Replays, ReplaysInVain}
use Rattle.worker_store.specs.restart_theorem.Promises.{Promise}
use Rattle.worker_store.specs.restart_theorem.Holds.{IsBounded}
use Rattle.worker_store.specs.rules.Savepoints.{Savepoint, IsAtSavepoint, BeginsAtPoint}
use Rattle.worker_store.specs.rules.Savepoints.{StandsBefore}
use Rattle.worker_store.specs.laws.Savepoints.{StandsBySaved}
use Rattle.worker_store.specs.rules.Carried.{answers_at}
use Rattle.worker_store.specs.laws.AtHand.{IsNextOf}
use Rattle.worker_store.proofs.LawLemmas.AtHand.{next_is_at_hand, version_at_hand}
use Rattle.worker_store.proofs.LawLemmas.Points.{by_point}
use Rattle.worker_store.specs.declared.fault.StoreFault.{StoreFault}
use Rattle.worker_store.specs.declared.fault.StoreFault.TheVariants as store
use Rattle.worker_store.specs.declared.store.WorkerStore.{WorkerStore}
use Rattle.worker_store.specs.rules.Calls.{IsAgain, LeavesPointOrNext, StoresAgain}
use Rattle.worker_store.specs.rules.Calls.{ReopeningFails, CommitCalls}
use Rattle.worker_store.specs.rules.Stores.{IsStoreOf, begun_store}
use Rattle.worker.specs.declared.fault.WorkFault.TheVariants.{Store}
use Rattle.worker.specs.declared.found.Found.{Found}
use Rattle.worker.specs.declared.recover_fault.RecoverFault.{RecoverFault}
use Rattle.worker.specs.declared.recover_fault.RecoverFault.TheVariants.{Worker, Replay}
use Rattle.worker.specs.rules.CallCounts.{most_committing}
use Rattle.worker.specs.rules.WorkFaults.{fault_of_store}
use Rattle.worker.specs.rules.DurableValues.{DurableValue}
use Rattle.worker.specs.Revivals.{WritesNext, OpensStore, OpensNone, OpensAgain}
use Rattle.worker.specs.Revivals.{IsReplayed, RevivesFound}
use Rattle.worker.proofs.RecoveryLemmas.There.{IsThere, within_at}
use Rattle.worker.proofs.RecoveryLemmas.Lives.{IsBack}

-- the next savepoint, and what a cut leaves while it is written
pub record HasNext (m : Module) (config : Settings) (promise : Promise) (found : Found)
    (sectors : ℕ) (mid new : Medium) (there : IsThere m config promise found sectors mid)
    (v : ProcessValue) : Type 0 where
  pub next : Savepoint m config
  pub is_next : IsNextOf there.point found.records.items [] there.last there.last v next
  pub front : next.front ≡ answers_at there.point found.records.items
  pub again : IsAgain found.geometry (found.generation + 1) v next
  pub leaves : LeavesOnly mid new (λ disk.
      IsAtSavepoint there.point found.records.items there.last disk ⊎ BeginsAtPoint next disk)

-- where images are at a savepoint, what is saved comes after that
before_next : (m : Module) (config : Settings) (point next : Savepoint m config)
    (records : List Record) (last p : ProcessState) (v : ProcessValue) (disk : DiskImage)
    → IsNextOf point records [] last p v next → IsAtSavepoint point records last disk
    → StandsBefore next (answers_at point records) last.steps disk
before_next m config point next records last p v disk is_next at =
    let by : StandsBySaved point (answers_at point records) last.steps disk =
    by_point m config point records last disk (answers_at point records) last.steps at refl refl in
    let comes = is_next.comes in
    record {
      stands = by.stands;
      wasm = comes.wasm ∙ sym by.wasm;
      generation = comes.generation ∙ ap (λ g. g + 1) (sym by.generation);
      numbers = comes.numbers;
    }

module _ {D O : Type 0} (medium : D → Medium) (takes : Taking O) (m : Module)
    (config : Settings) (promise : Promise) (found : Found) (sectors : ℕ) (mid new : D)
    (there : IsThere m config promise found sectors (medium mid)) (v : ProcessValue) (count : ℕ)
    (outlet outlet' : O) (back : IsBack takes there.point there.last v count outlet outlet')
  where
    pub has_next : WritesNext found.geometry found.generation v (medium mid) (medium new)
        → HasNext m config promise found sectors (medium mid) (medium new) there v
    has_next writes =
        let point : Savepoint m config = there.point in
        let records : List Record = found.records.items in
        let held = there.held in
        let at = there.found_at in
        let hand = next_is_at_hand m config point records [] there.last there.last 0 v
        held.recorded no_step back.shows back.some back.module_is
        (subst (λ w. TakesRecords w config.journal)
        (sym (version_at_hand m config point records there.last there.last 0 v held.recorded no_step
        back.shows)) point.room) in
        let next : Savepoint m config = hand.0 in
        let comes = hand.1.comes in
        let again : IsAgain found.geometry (found.generation + 1) v next = record {
          placed = at.geometry
              ∙ ap (λ (l : List ℕ). geometry_of config (length l)) (sym comes.wasm);
          generation = comes.generation ∙ ap (λ g. g + 1) (sym at.generation);
          saved = hand.1.saved;
          numbers = comes.numbers;
        } in
        record {
          next = next;
          is_next = hand.1;
          front = hand.1.front ∙ append-nil (answers_at point records);
          again = again;
          leaves = writes.leaves m config point next records there.last again comes there.all;
        }

    -- once it is there
    pub next_stored : (store : WorkerStore)
        → OpensStore found.geometry found.generation v store (medium mid) (medium new)
        → (has : HasNext m config promise found sectors (medium mid) (medium new) there v)
        → IsStoreOf has.next store [] [] has.next.process has.next.process (medium new)
    next_stored store opens has =
        let point : Savepoint m config = there.point in
        let records : List Record = found.records.items in
        opens.stores m config has.next (answers_at point records) there.last.steps has.again
        (λ disk crashed. before_next m config point has.next records there.last there.last v disk
        has.is_next (there.all disk crashed))

    -- what is there is within the bounds
    pub next_within : (has : HasNext m config promise found sectors (medium mid) (medium new) there
        v)
        → (latest : ℕ) → promise.events + 1 ≤ latest → (disk : DiskImage)
        → IsAtSavepoint there.point found.records.items there.last disk
        ⊎ BeginsAtPoint has.next disk
        → IsBounded latest sectors disk
    next_within has latest more disk at =
        let point : Savepoint m config = there.point in
        let next : Savepoint m config = has.next in
        let early : point.generation ≤ promise.events = there.early in
        let comes = has.is_next.comes in
        let one : next.generation ≡ point.generation + 1 = comes.generation in
        ⊎_elim
        (λ (stood : IsAtSavepoint there.point found.records.items there.last disk).
        within_at m config point found.records.items there.last latest sectors disk stood
        (omega (arith, early, more)) there.room)
        (λ (begins : BeginsAtPoint has.next disk).
        within_at m config next [] next.process latest sectors disk begins.at
        (omega (arith, early, more, one))
        (subst (λ (l : List ℕ). total_sectors (geometry_of config (length l)) ≤ sectors)
        (sym comes.wasm) there.room))
        at

-- ---- what a reopened store is

module _ {D : Type 0} (medium : D → Medium) (geometry : Geometry) (generation : ℕ)
    (v : ProcessValue) (mid : D) where
  -- the number of the next generation doesn't fit, and nothing is written
  pub none_next : NUMBERS_END ≤ generation + 1
      → OpensNone geometry generation v (Worker (Store store.TooBig)) (medium mid) (medium mid)
  none_next late = record {
    writes = record {
      leaves = λ m config point next records last again comes all.
          leaves_only (medium mid) (medium mid) (λ disk. IsAtSavepoint point records last disk
          ⊎ BeginsAtPoint next disk) (started (medium mid) (λ disk.
          IsAtSavepoint point records last disk ⊎ BeginsAtPoint next disk))
          (λ image crashed. inl (all image crashed));
      passes = started (medium mid) (λ image. Unit {0});
      counts = counts_same (medium mid) _;
      some = λ image crashed. (image, crashed);
      counted = omega arith;
      few = omega arith;
    };
    fault = store.TooBig;
    fails = inl late;
    is = refl;
  }

  module _ (next : ℕ) (is_next : next ≡ generation + 1) (new : D)
      (leaves : LeavesPointOrNext geometry next v (medium mid) (medium new))
      (passes : Passes (medium mid) (medium new) (λ image. Unit {0}))
      (counts : CountsUpTo ((medium mid).unsynced + geometry.area_sectors + 1) (medium mid)
      (medium new))
      (some : (image : DiskImage) → (medium new).crash_images image
      → (before : DiskImage) × (medium mid).crash_images before)
      (room : total_sectors geometry ≤ (medium mid).sectors)
      (few : CallsUpTo (most_committing geometry) (medium mid) (medium new)) where
    writes_next : WritesNext geometry generation v (medium mid) (medium new)
    writes_next = record {
      leaves = subst (λ n. LeavesPointOrNext geometry n v (medium mid) (medium new)) is_next
          leaves;
      passes = passes;
      counts = counts;
      some = some;
      counted = omega (arith, room, few);
      few = few;
    }

    pub opens_next : (store : WorkerStore)
        → StoresAgain geometry next v store (medium mid) (medium new)
        → store ≡ begun_store geometry (saved_of v).version next
        → store.journal.generation ≡ next → store.geometry ≡ geometry
        → CommitCalls {T = WorkerStore} geometry next v (Ok store) (medium mid) (medium new)
        → OpensStore geometry generation v store (medium mid) (medium new)
    opens_next store stores begun numbered placed calls = record {
      writes = writes_next;
      stores = subst (λ n. StoresAgain geometry n v store (medium mid) (medium new)) is_next
          stores;
      begun = begun ∙ ap (λ n. begun_store geometry (saved_of v).version n) is_next;
      numbered = numbered ∙ is_next;
      placed = placed;
      calls = subst (λ n. CommitCalls {T = WorkerStore} geometry n v (Ok store) (medium mid)
          (medium new)) is_next calls;
    }

    pub opens_none : (fault : StoreFault) (why : RecoverFault)
        → ReopeningFails geometry next v (medium mid) (medium new) fault
        → why ≡ Worker (fault_of_store fault)
        → OpensNone geometry generation v why (medium mid) (medium new)
    opens_none fault why fails is = record {
      writes = writes_next;
      fault = fault;
      fails = subst (λ n. ReopeningFails geometry n v (medium mid) (medium new) fault) is_next
          fails;
      is = is;
    }

-- ---- a replay, and then that

module _ {D O : Type 0} (medium : D → Medium) (takes : Taking O) (found : Found) (mid : D)
    (outlet outlet' : O) where
  pub revives_found : (v : ProcessValue) (count : ℕ) (new : D)
      → IsReplayed takes found v count outlet outlet'
      → (result : Result DurableValue RecoverFault)
      → OpensAgain found.geometry found.generation v count result (medium mid) (medium new)
      → RevivesFound medium takes found result mid new outlet outlet'
  revives_found v count new replayed (Ok w) opens =
      let same = opens.0 in (
        subst (λ (x : ProcessValue). IsReplayed takes found x w.replayed outlet outlet')
            (sym same.process)
            (subst (λ n. IsReplayed takes found v n outlet outlet') (sym same.replayed) replayed),
        subst (λ (x : ProcessValue). OpensStore found.geometry found.generation x w.store
            (medium mid) (medium new)) (sym same.process) opens.1,
        same.unfailed,
        subst (λ (x : ProcessValue). w.is_abreast ≡ is_some x.ended) (sym same.process)
            same.abreast,
      )
  revives_found v count new replayed (Err why) opens = inr (record {
    process = v;
    count = count;
    replayed = replayed;
    none = opens;
  })

  -- it stopped
  pub stops_found : (records : List Record) (fault : ReplayFault) (why : RecoverFault)
      → records ≡ found.records.items → why ≡ Replay fault
      → ReplaysInVain takes found.process records fault outlet outlet'
      → RevivesFound medium takes found (Err why) mid mid outlet outlet'
  stops_found records fault why same is stops = inl (record {
    fault = fault;
    is = is;
    stops = subst (λ l. ReplaysInVain takes found.process l fault outlet outlet') same stops;
    same = refl;
  })

pub is_replayed : {O : Type 0} (takes : Taking O) (found : Found) (v : ProcessValue) (count : ℕ)
    (outlet outlet' : O) (records : List Record) → records ≡ found.records.items
    → Replays takes found.process records v outlet outlet'
    → v.steps ≡ found.process.steps + count
    → v.machine.guest ≡ found.process.machine.guest → IsProcess v
    → IsReplayed takes found v count outlet outlet'
is_replayed takes found v count outlet outlet' records same replays counted guest some = record {
  replays = subst (λ l. Replays takes found.process l v outlet outlet') same replays;
  counted = counted;
  module_same = guest;
  some = some;
}
