-- What the parts of a slice do to a store and its disk, one after another.
use Rattle.std.proofs.Common.{◌≡◌, ◌⊎◌, ℕ, zero, suc, ◌+◌, ◌-◌, ◌<◌, ◌≤◌, List, [], ◌++◌, length}
use Rattle.std.proofs.Common.{drop, refl, sym, ap, ◌∙◌, subst, inl, inr, ⊎_elim, arith}
use Rattle.std.proofs.Common.{append_assoc, Bool, true, false}
use Rattle.std.proofs.lemmas.Bool.{cases_lt}
use Rattle.std.proofs.lemmas.List.{append-nil}
use Rattle.std.specs.Prelude.{◌*◌, Result, Ok, Err, IfErr}
use Rattle.process.specs.rules.Values.{ProcessValue}
use Rattle.process.specs.declared.fault.ProcessFault.{ProcessFault}
use Rattle.process.specs.declared.fault.ProcessFault.TheVariants as stop
use Rattle.state_image.specs.rules.ProcessImage.{process_image}
use Rattle.state_image.specs.rules.Saving.{saved_of}
use Rattle.sector_disk.specs.declared.disk_call.DiskCall.{DiskCall}
use Rattle.sector_disk.specs.declared.sector.TheConstants.{SECTOR_SIZE}
use Rattle.sector_disk.specs.rules.Medium.{Medium, Passes, IsAllSynced, BeginsCalls, CountsUpTo}
use Rattle.sector_disk.proofs.Moments.{started, goes_on}
use Rattle.disk_layout.specs.rules.Places.{Geometry, journal_place, total_sectors}
use Rattle.disk_layout.specs.rules.Journal.{Record}
use Rattle.journal.specs.rules.Packed.{sectors_for}
use Rattle.journal.specs.rules.State.{JournalState}
use Rattle.journal.specs.rules.Steps.{calls_to, barrier_calls}
use Rattle.snapshot.specs.rules.Calls.{with_head}
use Rattle.worker_store.specs.declared.fault.StoreFault.{StoreFault}
use Rattle.worker_store.specs.declared.fault.StoreFault.TheVariants as store
use Rattle.worker_store.specs.declared.store.WorkerStore.{WorkerStore}
use Rattle.worker_store.specs.rules.Calls.{AppendFails, BarrierFails, CommitFails, CommitCalls}
use Rattle.worker_store.specs.rules.Effects.{StoresPending, CommitsProcess}
use Rattle.worker_store.specs.rules.Stores.{IsOfStore, begun_store, with_record}
use Rattle.worker_store.specs.rules.Stores.{with_stored, failed_store}
use Rattle.record_replay.specs.declared.slices.now.Now.{Now}
use Rattle.record_replay.specs.declared.slices.fault.SliceFault.TheVariants as slice
use Rattle.record_replay.specs.rules.Refusals.{slice_fault}
use Rattle.worker.specs.declared.fault.WorkFault.{WorkFault}
use Rattle.worker.specs.declared.fault.WorkFault.TheVariants.{Work, Disk, Store, Upgrade}
use Rattle.worker.specs.declared.running_worker.RunningWorker.{RunningWorker}
use Rattle.worker.specs.rules.DurableFailures.{HasSliceCause, LacksRoom}
use Rattle.worker.specs.rules.DurableValues.{DurableValue, durable_of}
use Rattle.worker.specs.rules.WorkFaults.{fault_of_store}
use Rattle.worker.specs.Savings.{HasSaveCause}
use Rattle.worker.specs.rules.SliceCalls.{AreSliceCalls, AreLastCalls, AreBarrierCalls}
use Rattle.worker.specs.rules.SliceCalls.{SliceCalls, none, barrier, save}
use Rattle.worker.specs.StoreTurns.{StoreGoes, StoreStops, StoreRuns, StoreSaves, HasTurnCause}
use Rattle.worker.specs.StoreTurns.{StoreHears, HearsOrNot, HasHearingCause}
use Rattle.worker.specs.rules.Unsynced.{CountsInSlice}
use Rattle.worker.proofs.TurnCounts.{counts_none, counts_join, barrier_counts, commit_counts}

-- ---- calls, one after another

calls_on : (places : Geometry) (first g h : ℕ) (earlier later : List DiskCall)
    → AreSliceCalls places first g earlier → AreSliceCalls places g h later
    → AreSliceCalls places first h (later ++ earlier)
calls_on places first g h earlier later so_far none = so_far
calls_on places first g h earlier later so_far (barrier k before calls more these) =
    subst (λ (l : List DiskCall). AreSliceCalls places first k l)
    (sym (append_assoc calls before earlier))
    (barrier k (before ++ earlier) calls (calls_on places first g k earlier before so_far more)
    these)
calls_on places first g h earlier later so_far (save k before calls more these) =
    subst (λ (l : List DiskCall). AreSliceCalls places first (k + 1) l)
    (sym (append_assoc calls before earlier))
    (save k (before ++ earlier) calls (calls_on places first g k earlier before so_far more) these)

-- ---- parts, one after another

pub goes_none : (store : WorkerStore) (disk : Medium) → StoreGoes store store disk disk
goes_none store disk = record {
  geometry = refl;
  passes = started disk (λ image. Unit {0});
  unsynced = omega arith;
  counts = counts_none store.geometry disk;
  works = λ is. is;
  made = [];
  are = none;
  calls = refl;
}

-- where the second works if the first does, and has failed, the first has
failed_with : (a b : Bool) → (a ≡ false → b ≡ false) → b ≡ true → a ≡ true
failed_with true b works failed = refl
failed_with false b works failed = let no = works refl in absurd (cc)

-- where the disk lacks room now, it did before
lacked : (places : Geometry) (old new : Medium) → Passes old new (λ image. Unit {0})
    → new.unsynced ≤ old.unsynced → LacksRoom places new → LacksRoom places old
lacked places old new passes fewer (inl few) =
    let room = passes.room in inl (omega (arith, fewer, few, room))
lacked places old new passes fewer (inr (inl few)) =
    let room = passes.room in inr (inl (omega (arith, fewer, few, room)))
lacked places old new passes fewer (inr (inr no_room)) =
    let room = passes.room in inr (inr (omega (arith, no_room, room)))

module _ (a b : WorkerStore) (d e : Medium) (one : StoreGoes a b d e) where
  module _ (f : Medium) (later : Passes e f (λ image. Unit {0})) where
    both_pass : Passes d f (λ image. Unit {0})
    both_pass =
        goes_on d e f (λ image. Unit {0}) (λ image. Unit {0}) one.passes later (λ image at. tt)

    caused_since : (why : WorkFault) → HasTurnCause b e f why → HasTurnCause a d f why
    caused_since (Disk fault) (inl lacks) =
        inl (lacked a.geometry d e one.passes one.unsynced
        (subst (λ (g : Geometry). LacksRoom g e) one.geometry lacks))
    caused_since (Disk fault) (inr failed) =
        let faults = one.passes.faults in inr (omega (arith, failed, faults))
    caused_since (Work slice.Failed) failed =
        failed_with a.journal.has_failed b.journal.has_failed one.works failed
    caused_since (Work slice.Source) cause = tt
    caused_since (Work slice.Outlet) cause = tt
    caused_since (Work slice.Memory) cause = tt
    caused_since (Work (slice.Refused why)) cause = tt
    caused_since (Store store.Full) cause = tt
    caused_since (Store store.TooLong) cause = tt
    caused_since (Store store.TooBig) cause = tt
    caused_since (Store store.Damaged) cause = cause
    caused_since (Store (store.Layout why)) cause = cause
    caused_since (Store (store.Disk why)) cause = cause
    caused_since (Store store.Memory) cause = cause
    caused_since (Store store.Failed) cause = cause
    caused_since (Upgrade why) cause = cause

  pub goes_join : (c : WorkerStore) (f : Medium) → StoreGoes b c e f → StoreGoes a c d f
  goes_join c f two = record {
    geometry = two.geometry ∙ one.geometry;
    passes = both_pass f two.passes;
    unsynced = (let x = one.unsynced in let y = two.unsynced in omega (arith, x, y));
    counts = counts_join a.geometry b.geometry d e f one.geometry one.unsynced one.passes.later
        one.counts two.counts;
    works = λ is. two.works (one.works is);
    made = two.made ++ one.made;
    are = calls_on a.geometry a.journal.generation b.journal.generation c.journal.generation
        one.made two.made one.are
        (subst (λ (g : Geometry). AreSliceCalls g b.journal.generation c.journal.generation
        two.made) one.geometry two.are);
    calls = two.calls ∙ ap (λ (l : List DiskCall). two.made ++ l) one.calls
        ∙ sym (append_assoc two.made one.made d.calls);
  }

  pub stops_join : (c : WorkerStore) (why : WorkFault) (f : Medium)
      → StoreStops b c why e f → StoreStops a c why d f
  stops_join c why f two = record {
    geometry = two.geometry ∙ one.geometry;
    passes = both_pass f two.passes;
    counts = counts_join a.geometry b.geometry d e f one.geometry one.unsynced one.passes.later
        one.counts two.counts;
    made = two.made ++ one.made;
    are = calls_on a.geometry a.journal.generation b.journal.generation c.journal.generation
        one.made two.made one.are
        (subst (λ (g : Geometry). AreSliceCalls g b.journal.generation c.journal.generation
        two.made) one.geometry two.are);
    last = two.last;
    last_are = subst (λ (g : Geometry). AreLastCalls g c.journal.generation two.last) one.geometry
        two.last_are;
    left_out = two.left_out;
    calls = two.calls ∙ ap (λ (l : List DiskCall). drop two.left_out two.last ++ l)
        (ap (λ (l : List DiskCall). two.made ++ l) one.calls
        ∙ sym (append_assoc two.made one.made d.calls));
    cause = caused_since f two.passes why two.cause;
  }

  -- it fails there, at something else
  pub goes_stop : (why : WorkFault) → HasTurnCause a d e why → StoreStops a b why d e
  goes_stop why cause = record {
    geometry = one.geometry;
    passes = one.passes;
    counts = one.counts;
    made = one.made;
    are = one.are;
    last = [];
    last_are = inl (0, 0, omega arith, refl);
    left_out = 0;
    calls = one.calls;
    cause = cause;
  }

  pub runs_join : {T : Type 0} (c : WorkerStore) (result : Result T WorkFault) (f : Medium)
      → StoreRuns result b c e f → StoreRuns result a c d f
  runs_join c (Ok done) f two = goes_join c f two
  runs_join c (Err why) f two = stops_join c why f two

-- a fault of the process alone
pub process_cause : (old : WorkerStore) (disk disk' : Medium) (why : ProcessFault)
    → HasTurnCause old disk disk' (Work (slice_fault why))
process_cause old disk disk' stop.WrongAnswer = tt
process_cause old disk disk' stop.Memory = tt
process_cause old disk disk' stop.StepsSpent = tt

-- ---- a barrier

-- what it writes has room in the journal
abbrev FitsJournal : WorkerStore → Type 0
FitsJournal old =
    sectors_for (length old.journal.kept) ≤ old.geometry.journal_sectors - old.journal.used

-- it has, or nothing is written
abbrev HasPlace : WorkerStore → StoreFault → Medium → Medium → Type 0
HasPlace old fault disk disk' = FitsJournal old
    ⊎ (((fault ≡ store.Full) ⊎ (fault ≡ store.Failed)) × (disk'.calls ≡ disk.calls))

-- a barrier's answer
abbrev pub Said : Type 0
Said = Result (Unit {0}) StoreFault

-- so its clauses say
module _ {D : Type 0} (medium : D → Medium) (old : WorkerStore) (disk disk' : D) where
  abbrev pub RefusesMore : Said → Type 0
  RefusesMore result = old.geometry.journal_sectors - old.journal.used
      < sectors_for (length old.journal.kept)
      → ((result ≡ Err store.Full) ⊎ (result ≡ Err store.Failed)) × (disk' ≡ disk)

  fits_journal : (done : Unit {0}) → RefusesMore (Ok done) → FitsJournal old
  fits_journal done full =
      ⊎_elim
      (λ more. ⊎_elim (λ (e : ◌≡◌ {A = Said} (Ok done) (Err store.Full)). absurd (cc))
      (λ (e : ◌≡◌ {A = Said} (Ok done) (Err store.Failed)). absurd (cc)) (full more).0)
      (λ le. le)
      (cases_lt (old.geometry.journal_sectors - old.journal.used)
      (sectors_for (length old.journal.kept)))

  has_place : (fault : StoreFault) → RefusesMore (Err fault)
      → HasPlace old fault (medium disk) (medium disk')
  has_place fault full =
      ⊎_elim
      (λ more. (let so = full more in inr (
        ⊎_elim (λ (e : ◌≡◌ {A = Said} (Err fault) (Err store.Full)). inl (cc))
            (λ (e : ◌≡◌ {A = Said} (Err fault) (Err store.Failed)). inr (cc)) so.0,
        ap (λ (d : D). (medium d).calls) so.1,
      )))
      (λ le. inl le)
      (cases_lt (old.geometry.journal_sectors - old.journal.used)
      (sectors_for (length old.journal.kept)))

  no_more_unsynced : (length old.journal.kept ≡ 0 → disk' ≡ disk)
      → (length old.journal.kept ≡ 0) ⊎ IsAllSynced (medium disk')
      → (medium disk').unsynced ≤ (medium disk).unsynced
  no_more_unsynced quiet (inl nothing) =
      let same = ap (λ (d : D). (medium d).unsynced) (quiet nothing) in omega (arith, same)
  no_more_unsynced quiet (inr all_synced) =
      let synced = all_synced.unsynced in omega (arith, synced)

are_barrier : (places : Geometry) (s : JournalState)
    → sectors_for (length s.kept) ≤ places.journal_sectors - s.used
    → AreBarrierCalls places (barrier_calls places s)
are_barrier places s within = by (sectors_for (length s.kept)) within
  where
    by : (n : ℕ) → n ≤ places.journal_sectors - s.used
        → AreBarrierCalls places (calls_to (journal_place places + s.used) n)
    by zero le = (0, 0, omega arith, refl)
    by (suc n) le = (s.used, suc n, omega (arith, le), refl)

-- a list with none after it
with_none : (calls before : List DiskCall) (after : List DiskCall) → after ≡ calls ++ before
    → after ≡ (calls ++ []) ++ before
with_none calls before after e =
    e ∙ ap (λ (l : List DiskCall). l ++ before) (sym (append-nil calls))

-- the calls so far lead to the same generation
led : (old new : WorkerStore) → IsOfStore old new
    → AreSliceCalls old.geometry old.journal.generation new.journal.generation []
led old new stays =
    subst (λ g. AreSliceCalls old.geometry old.journal.generation g []) (sym stays.generation)
    none

module _ (old new : WorkerStore) (disk disk' : Medium) (stays : IsOfStore old new)
    (passes : Passes disk disk' (λ image. Unit {0}))
    (counts : CountsInSlice old.geometry disk disk') where
  barrier_goes : new ≡ with_stored old
      → sectors_for (length old.journal.kept) ≤ old.geometry.journal_sectors - old.journal.used
      → disk'.unsynced ≤ disk.unsynced
      → disk'.calls ≡ barrier_calls old.geometry old.journal ++ disk.calls
      → StoreGoes old new disk disk'
  barrier_goes is within fewer made = record {
    geometry = stays.geometry;
    passes = passes;
    unsynced = fewer;
    counts = counts;
    works = λ worked. ap (λ (s : WorkerStore). s.journal.has_failed) is;
    made = barrier_calls old.geometry old.journal ++ [];
    are = barrier new.journal.generation [] (barrier_calls old.geometry old.journal)
        (led old new stays) (are_barrier old.geometry old.journal within);
    calls = with_none (barrier_calls old.geometry old.journal) disk.calls disk'.calls made;
  }

  barrier_cause : (fault : StoreFault) → total_sectors old.geometry ≤ disk.sectors
      → BarrierFails old disk disk' fault
      → HasPlace old fault disk disk' → HasTurnCause old disk disk' (fault_of_store fault)
  barrier_cause store.Full enough fails place = tt
  barrier_cause store.TooLong enough fails place = absurd fails
  barrier_cause store.TooBig enough fails place = absurd fails
  barrier_cause store.Damaged enough fails place = absurd fails
  barrier_cause (store.Layout fault) enough fails place = absurd fails
  barrier_cause (store.Disk fault) enough (inl small) place =
      absurd (omega (arith, small, enough))
  barrier_cause (store.Disk fault) enough (inr (inl few)) (inl within) =
      inl (inl (omega (arith, few, within)))
  barrier_cause (store.Disk fault) enough (inr (inl few)) (inr (inl full, same)) = absurd (cc)
  barrier_cause (store.Disk fault) enough (inr (inl few)) (inr (inr failed, same)) = absurd (cc)
  barrier_cause (store.Disk fault) enough (inr (inr failed)) place = inr failed
  barrier_cause store.Memory enough fails place = absurd fails
  barrier_cause store.Failed enough failed place = failed

  barrier_stops : (fault : StoreFault) → total_sectors old.geometry ≤ disk.sectors
      → BarrierFails old disk disk' fault
      → HasPlace old fault disk disk'
      → BeginsCalls (barrier_calls old.geometry old.journal) disk disk'
      → StoreStops old new (fault_of_store fault) disk disk'
  barrier_stops fault enough fails (inl within) begun = record {
    geometry = stays.geometry;
    passes = passes;
    counts = counts;
    made = [];
    are = led old new stays;
    last = barrier_calls old.geometry old.journal;
    last_are = inl (are_barrier old.geometry old.journal within);
    left_out = begun.0;
    calls = begun.1;
    cause = barrier_cause fault enough fails (inl within);
  }
  barrier_stops fault enough fails (inr still) begun = record {
    geometry = stays.geometry;
    passes = passes;
    counts = counts;
    made = [];
    are = led old new stays;
    last = [];
    last_are = inl (0, 0, omega arith, refl);
    left_out = 0;
    calls = still.1;
    cause = barrier_cause fault enough fails (inr still);
  }

-- by its contract
module _ {D : Type 0} (medium : D → Medium) (old new : WorkerStore) (disk disk' : D) where
  pub barrier_went : (done : Unit {0})
      → StoresPending old new (Ok done) (medium disk) (medium disk')
      → RefusesMore medium old disk disk' (Ok done) → (length old.journal.kept ≡ 0 → disk' ≡ disk)
      → StoreGoes old new (medium disk) (medium disk')
  barrier_went done stores full quiet =
      barrier_goes old new (medium disk) (medium disk') stores.stays stores.passes
      (barrier_counts medium old _ disk disk' full stores.counts) stores.stored
      (fits_journal medium old disk disk' done full)
      (no_more_unsynced medium old disk disk' quiet stores.all_synced) stores.calls.all

  pub barrier_failed : (fault : StoreFault)
      → StoresPending old new (Err fault) (medium disk) (medium disk')
      → RefusesMore medium old disk disk' (Err fault)
      → total_sectors old.geometry ≤ (medium disk).sectors
      → StoreStops old new (fault_of_store fault) (medium disk) (medium disk')
  barrier_failed fault stores full enough =
      barrier_stops old new (medium disk) (medium disk') stores.stays stores.passes
      (barrier_counts medium old _ disk disk' full stores.counts) fault enough stores.cause
      (has_place medium old disk disk' fault full) stores.calls.begun

-- ---- a commit

module _ (old new : WorkerStore) (process : ProcessValue) (disk disk' : Medium)
    (passes : Passes disk disk' (λ image. Unit {0}))
    (counts : CountsUpTo (disk.unsynced + old.geometry.area_sectors + 1) disk disk')
    (enough : total_sectors old.geometry ≤ disk.sectors) where
  commit_goes : new
      ≡ begun_store old.geometry (saved_of process).version (old.journal.generation + 1)
      → IsAllSynced disk'
      → CommitCalls {T = Unit {0}} old.geometry (old.journal.generation + 1) process (Ok tt) disk
      disk' → StoreGoes old new disk disk'
  commit_goes is all_synced calls =
      let g : ℕ = old.journal.generation in
      let made = calls.2 in
      let numbered : new.journal.generation ≡ g + 1 =
      ap (λ (s : WorkerStore). s.journal.generation) is in
      record {
        geometry = ap (λ (s : WorkerStore). s.geometry) is;
        passes = passes;
        unsynced = (let synced = all_synced.unsynced in omega (arith, synced));
        counts = commit_counts old.geometry disk disk' counts;
        works = λ worked. ap (λ (s : WorkerStore). s.journal.has_failed) is;
        made = with_head (g + 1) calls.0 ++ [];
        are = subst (λ n. AreSliceCalls old.geometry g n (with_head (g + 1) calls.0 ++ []))
            (sym numbered)
            (save g [] (with_head (g + 1) calls.0) none (_, calls.0, calls.1, refl));
        calls = with_none (with_head (g + 1) calls.0) disk.calls disk'.calls made.all;
      }

  commit_cause : (fault : StoreFault) → CommitFails old process disk disk' fault
      → HasTurnCause old disk disk' (fault_of_store fault)
  commit_cause store.TooBig fails = tt
  commit_cause store.Full fails = absurd fails
  commit_cause store.TooLong fails = absurd fails
  commit_cause store.Damaged fails = absurd fails
  commit_cause (store.Layout fault) fails = absurd fails
  commit_cause (store.Disk fault) (inl small) = absurd (omega (arith, small, enough))
  commit_cause (store.Disk fault) (inr (inl few)) = inl (inr (inl few))
  commit_cause (store.Disk fault) (inr (inr (inl no_room))) = inl (inr (inr no_room))
  commit_cause (store.Disk fault) (inr (inr (inr failed))) = inr failed
  commit_cause store.Memory fails = absurd fails
  commit_cause store.Failed failed = failed

  commit_stops : (fault : StoreFault) → new.geometry ≡ old.geometry
      → new ≡ failed_store old → CommitFails old process disk disk' fault
      → CommitCalls {T = Unit {0}} old.geometry (old.journal.generation + 1) process (Err fault)
      disk disk' → StoreStops old new (fault_of_store fault) disk disk'
  commit_stops fault same unchanged fails calls =
      let g : ℕ = old.journal.generation in
      let begun = calls.2.begun in
      let numbered : new.journal.generation ≡ g =
      ap (λ (s : WorkerStore). s.journal.generation) unchanged in
      record {
        geometry = same;
        passes = passes;
        counts = commit_counts old.geometry disk disk' counts;
        made = [];
        are = subst (λ n. AreSliceCalls old.geometry g n []) (sym numbered) none;
        last = with_head (g + 1) calls.0;
        last_are = subst (λ n. AreLastCalls old.geometry n (with_head (g + 1) calls.0))
            (sym numbered) (inr (_, calls.0, calls.1, refl));
        left_out = begun.0;
        calls = begun.1;
        cause = commit_cause fault fails;
      }

-- whatever it has answered
pub commit_runs : (old new : WorkerStore) (process : ProcessValue) (disk disk' : Medium)
    (result : Said) → total_sectors old.geometry ≤ disk.sectors
    → CommitsProcess process old new result disk disk' → StoreSaves result old new disk disk'
commit_runs old new process disk disk' (Ok done) enough commits =
    commit_goes old new process disk disk' commits.passes commits.counts enough commits.begun
    commits.all_synced commits.calls
commit_runs old new process disk disk' (Err fault) enough commits =
    commit_stops old new process disk disk' commits.passes commits.counts enough fault
    commits.stays commits.unchanged commits.cause commits.calls

-- after a barrier
pub saves_join : (a b c : WorkerStore) (d e f : Medium) (result : Said) → StoreGoes a b d e
    → StoreSaves result b c e f → StoreSaves result a c d f
saves_join a b c d e f (Ok done) one two = goes_join a b d e one c f two
saves_join a b c d e f (Err fault) one two =
    stops_join a b d e one c (fault_of_store fault) f two

-- ---- why a save fails

pub barrier_save_cause : (old : WorkerStore) (process : ProcessValue) (disk disk' : Medium)
    (fault : StoreFault) → total_sectors old.geometry ≤ disk.sectors
    → BarrierFails old disk disk' fault → HasSaveCause old process disk disk' fault
barrier_save_cause old process disk disk' store.Full enough fails =
    let more = fails.1 in omega (arith, more)
barrier_save_cause old process disk disk' store.TooLong enough fails = absurd fails
barrier_save_cause old process disk disk' store.TooBig enough fails = absurd fails
barrier_save_cause old process disk disk' store.Damaged enough fails = absurd fails
barrier_save_cause old process disk disk' (store.Layout fault) enough fails = absurd fails
barrier_save_cause old process disk disk' (store.Disk fault) enough (inl small) =
    absurd (omega (arith, small, enough))
barrier_save_cause old process disk disk' (store.Disk fault) enough (inr (inl few)) = inl few
barrier_save_cause old process disk disk' (store.Disk fault) enough (inr (inr failed)) =
    inr (inr (inr failed))
barrier_save_cause old process disk disk' store.Memory enough fails = absurd fails
barrier_save_cause old process disk disk' store.Failed enough failed = failed

module _ (a b : WorkerStore) (process : ProcessValue) (d e f : Medium) (one : StoreGoes a b d e)
    (stays : IsOfStore a b) (enough : total_sectors b.geometry ≤ e.sectors) where
  commit_fault_cause : (fault : StoreFault) → CommitFails b process e f fault
      → HasSaveCause a process d f fault
  commit_fault_cause store.TooBig (inl late) =
      let same = stays.generation in inl (omega (arith, late, same))
  commit_fault_cause store.TooBig (inr long) =
      inr (subst (λ (g : Geometry).
      SECTOR_SIZE * g.area_sectors < length (process_image (saved_of process))) stays.geometry long)
  commit_fault_cause store.Full fails = absurd fails
  commit_fault_cause store.TooLong fails = absurd fails
  commit_fault_cause store.Damaged fails = absurd fails
  commit_fault_cause (store.Layout fault) fails = absurd fails
  commit_fault_cause (store.Disk fault) (inl small) = absurd (omega (arith, small, enough))
  commit_fault_cause (store.Disk fault) (inr (inl few)) =
      let passes = one.passes in
      let fewer = one.unsynced in
      let room = passes.room in
      let same = ap (λ (g : Geometry). g.area_sectors) stays.geometry in
      inr (inl (omega (arith, few, fewer, room, same)))
  commit_fault_cause (store.Disk fault) (inr (inr (inl no_room))) =
      let passes = one.passes in
      let room = passes.room in
      inr (inr (inl (omega (arith, no_room, room))))
  commit_fault_cause (store.Disk fault) (inr (inr (inr failed))) =
      let passes = one.passes in
      let faults = passes.faults in
      inr (inr (inr (omega (arith, failed, faults))))
  commit_fault_cause store.Memory fails = absurd fails
  commit_fault_cause store.Failed failed =
      failed_with a.journal.has_failed b.journal.has_failed one.works failed

  pub commit_save_cause : (result : Said) → IfErr result (λ why. CommitFails b process e f why)
      → IfErr result (λ why. HasSaveCause a process d f why)
  commit_save_cause (Ok done) fails = tt
  commit_save_cause (Err fault) fails = commit_fault_cause fault fails

-- ---- an answer

pub hears_goes : (old new : WorkerStore) (disk : Medium) → StoreHears old new
    → StoreGoes old new disk disk
hears_goes old new disk hears =
    let stays = hears.stays in
    record {
      geometry = stays.geometry;
      passes = started disk (λ image. Unit {0});
      unsynced = omega arith;
      counts = counts_none old.geometry disk;
      works = hears.works;
      made = [];
      are = led old new stays;
      calls = refl;
    }

heard_cause : (old : WorkerStore) (why : WorkFault) (disk : Medium)
    → HasHearingCause old why → HasTurnCause old disk disk why
heard_cause old (Disk fault) disk cause = absurd cause
heard_cause old (Work slice.Failed) disk cause = cause
heard_cause old (Work slice.Source) disk cause = tt
heard_cause old (Work slice.Outlet) disk cause = tt
heard_cause old (Work slice.Memory) disk cause = tt
heard_cause old (Work (slice.Refused why)) disk cause = tt
heard_cause old (Store store.Full) disk cause = tt
heard_cause old (Store store.TooLong) disk cause = tt
heard_cause old (Store store.TooBig) disk cause = absurd cause
heard_cause old (Store store.Damaged) disk cause = cause
heard_cause old (Store (store.Layout fault)) disk cause = cause
heard_cause old (Store (store.Disk fault)) disk cause = cause
heard_cause old (Store store.Memory) disk cause = cause
heard_cause old (Store store.Failed) disk cause = cause
heard_cause old (Upgrade fault) disk cause = cause

pub hears_runs : {T : Type 0} (old new : WorkerStore) (result : Result T WorkFault)
    (disk : Medium) → HearsOrNot result old new → StoreRuns result old new disk disk
hears_runs old new (Ok done) disk hears = hears_goes old new disk hears
hears_runs old new (Err why) disk hears =
    let stays = hears.stays in
    record {
      geometry = stays.geometry;
      passes = started disk (λ image. Unit {0});
      counts = counts_none old.geometry disk;
      made = [];
      are = led old new stays;
      last = [];
      last_are = inl (0, 0, omega arith, refl);
      left_out = 0;
      calls = refl;
      cause = heard_cause old why disk hears.cause;
    }

pub append_hears : (old new : WorkerStore) (r : Record) → IsOfStore old new
    → new ≡ with_record old r → StoreHears old new
append_hears old new r stays is = record {
  stays = stays;
  works = λ worked. ap (λ (s : WorkerStore). s.journal.has_failed) is;
}

pub append_cause : (old : WorkerStore) (r : Record) (fault : StoreFault) → AppendFails old r fault
    → HasHearingCause old (fault_of_store fault)
append_cause old r store.Full fails = tt
append_cause old r store.TooLong fails = tt
append_cause old r store.TooBig fails = absurd fails
append_cause old r store.Damaged fails = absurd fails
append_cause old r (store.Layout fault) fails = absurd fails
append_cause old r (store.Disk fault) fails = absurd fails
append_cause old r store.Memory fails = tt
append_cause old r store.Failed failed = failed

pub taken_cause : (old : WorkerStore) (why : ProcessFault)
    → HasHearingCause old (Work (slice_fault why))
taken_cause old stop.WrongAnswer = tt
taken_cause old stop.Memory = tt
taken_cause old stop.StepsSpent = tt

-- ---- as contracts see it

-- of a worker that had failed
pub failed_slice_calls : (T : Type 0) (store : WorkerStore) (disk : Medium) (why : WorkFault)
    → SliceCalls {T = T} (Err why) store store disk disk
failed_slice_calls T store disk why = ([], [], none, inl (0, 0, omega arith, refl), 0, refl)

-- of a worker that stops there, and has failed then
stopped_slice_calls : (T : Type 0) (old new after : WorkerStore) (disk disk' : Medium)
    (why : WorkFault) → StoreStops old new why disk disk' → after ≡ failed_store new
    → SliceCalls {T = T} (Err why) old after disk disk'
stopped_slice_calls T old new after disk disk' why stops is =
    subst (λ (s : WorkerStore). SliceCalls {T = T} (Err why) old s disk disk') (sym is)
    (stops.made, stops.last, stops.are, stops.last_are, stops.left_out, stops.calls)

module _ (running : RunningWorker) (replayed : ℕ) (old : DurableValue)
    (is_old : durable_of running replayed ≡ old) (after : WorkerStore)
    (disk disk' : Medium) where
  pub calls_done : (now : Now) → StoreGoes running.store after disk disk'
      → SliceCalls {E = WorkFault} (Ok now) old.store after disk disk'
  calls_done now goes = subst (λ (w : DurableValue).
      SliceCalls {E = WorkFault} (Ok now) w.store after disk disk') is_old
      (goes.made, goes.are, goes.calls)

  module _ (why : WorkFault) (stops : StoreStops running.store after why disk disk') where
    pub calls_in_vain : (last : WorkerStore) → last ≡ failed_store after
        → SliceCalls {T = Now} (Err why) old.store last disk disk'
    calls_in_vain last is = subst (λ (w : DurableValue).
        SliceCalls {T = Now} (Err why) w.store last disk disk') is_old
        (stopped_slice_calls Now running.store after last disk disk' why stops is)

    pub has_slice_cause : HasSliceCause old disk disk' why
    has_slice_cause = subst (λ (w : DurableValue). HasSliceCause w disk disk' why) is_old
        stops.cause
