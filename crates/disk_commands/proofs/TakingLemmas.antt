-- Which lines of slices were taken, and which of them was refused.
use Rattle.std.proofs.Common.{◌≡◌, inl, inr, ⊎_elim, ℕ, suc, Bool, true, false, List, [], ◌∷◌, ◌++◌}
use Rattle.std.proofs.Common.{length, Err, refl, sym, ap, ◌∙◌, subst, append-nil}
use Rattle.std.specs.Prelude.{map, Result}
use Rattle.std.specs.List.{AllByRecursion}
use Rattle.process_rules.specs.Processes.{ProcessState, Guest}
use Rattle.process.specs.rules.Values.{ProcessValue, IsProcess}
use Rattle.sector_disk.specs.rules.Medium.{Medium}
use Rattle.record_replay.specs.rules.Calls.{Giving, Taking, Begun, Exchange, Asks, Tells, Released}
use Rattle.record_replay.specs.rules.Calls.{Releases, releases_of, last_refused, ports}
use Rattle.record_replay.proofs.Following.{leads_before, leads_split, releases_of-append}
use Rattle.record_replay.specs.declared.slices.fault.SliceFault.TheVariants as slice
use Rattle.record_replay.specs.declared.slices.fault.Refusal.TheVariants as refusal
use Rattle.record_replay.specs.declared.slices.now.Now.{Now}
use Rattle.record_replay.specs.rules.Workers.{WorkerValue}
use Rattle.record_replay.specs.rules.Slices.{Slices}
use Rattle.record_replay.specs.rules.Faults.{StopsAtLine}
use Rattle.worker.specs.declared.fault.WorkFault.{WorkFault}
use Rattle.worker.specs.declared.fault.WorkFault.TheVariants as work
use Rattle.worker.specs.declared.recover_fault.RecoverFault.TheVariants as recover
use Rattle.record_replay.specs.declared.line_list.NumberedLine.{NumberedLine}
use Rattle.worker.specs.rules.Batches.{BatchFails, HasUntakenAnswer, TellsFront, ToldUpTo, taking}
use Rattle.worker.proofs.StopLemmas.{store_tells_front, stops_at_store}
use Rattle.worker.specs.rules.Checkpoints.{HasCheckpointCause}
use Rattle.worker.specs.rules.DurableFailures.{SlicesOnDiskInVain, IsDiskCause}
use Rattle.worker.specs.rules.DurableValues.{DurableValue}
use Rattle.worker.specs.rules.Outlets.{TakesEach, RefusesLast, HeedsOutlet, IsOutletFault, WasTaken}
use Rattle.worker.proofs.OutletLemmas.{none_told, refuses_then, lines_taken, last_is_refused}
use Rattle.disk_commands.proofs.BreakLemmas.{same_fault}
use Rattle.disk_commands.proofs.ToldLemmas.{AllTaken, releases_told, taken_then, by_leads, up_to}
use Rattle.disk_commands.proofs.ToldLemmas.{emits, at_disk, at_store}

-- an error of a call that is the outlet's
abbrev pub IsOutletsCall : WorkFault → Type 0
IsOutletsCall why = IsOutletFault (recover.Worker why)

-- no checkpoint has one
pub saving_is_other : (w : DurableValue) (old new : Medium) (why : WorkFault)
    → HasCheckpointCause w old new why → IsOutletsCall why → ⊥
saving_is_other w old new (work.Work slice.Source) cause told = told
saving_is_other w old new (work.Work slice.Outlet) cause told = cause
saving_is_other w old new (work.Work slice.Memory) cause told = told
saving_is_other w old new (work.Work slice.Failed) cause told = told
saving_is_other w old new (work.Work (slice.Refused why)) cause told = told
saving_is_other w old new (work.Disk why) cause told = told
saving_is_other w old new (work.Store why) cause told = told
saving_is_other w old new (work.Upgrade why) cause told = told

module _ {O : Type 0} (takes : Taking O) where
  by_taken : (exchanges : List Exchange) (o o' : O) → AllTaken exchanges
      → Releases takes o (releases_of exchanges) o' → TakesEach takes o o'
  by_taken exchanges o o' all led =
      lines_taken takes all.first all.lines o o' (subst (λ z. Releases takes o z o') all.are led)

  -- a slice stops at a line that was refused
  at_line : (guest : Guest) (p : ProcessState) (exchanges : List Exchange) (steps : ℕ)
      (q : ProcessState) (o o' : O) → StopsAtLine guest p exchanges steps q
      → Releases takes o (releases_of exchanges) o' → RefusesLast takes o o'
  at_line guest p exchanges steps q o o' h led =
      let first = suc (length h.last.before.host.lines) in
      let told = last_refused first h.told h.line in
      let are : releases_of exchanges ≡ releases_of h.front ++ told =
      ap releases_of h.is ∙ releases_of-append h.front (map Tells told)
      ∙ ap (λ z. releases_of h.front ++ z) (releases_told told) in
      let r = leads_split (Released takes) o o' (releases_of h.front) told
      (subst (λ z. Releases takes o z o') are led) in
      refuses_then takes o r.0 o'
      (by_taken h.front o r.0
      (emits guest p h.front steps q (h.told ++ (h.line ∷ h.others)) h.last) r.1)
      (last_is_refused takes first h.told h.line r.0 o' r.2)

  module _ (guest : Guest) (p : ProcessState) (exchanges : List Exchange) (steps : ℕ)
      (q : ProcessState) (o o' : O) (led : Releases takes o (releases_of exchanges) o') where
    heeds : (why : WorkFault) → (IsOutletsCall why → ⊥) → AllTaken exchanges
        → HeedsOutlet takes (IsOutletsCall why) o o'
    heeds why other all = inl (by_taken exchanges o o' all led, other)

    heeds_cause : (fuel : ℕ) (why : WorkFault) → IsDiskCause guest p fuel exchanges steps q why
        → HeedsOutlet takes (IsOutletsCall why) o o'
    heeds_cause fuel (work.Work slice.Source) h =
        heeds (work.Work slice.Source) (λ told. told)
        (taken_then exchanges h.1.front (Asks h.1.ask ∷ []) h.1.is refl
        (by_leads guest p h.1.front steps q h.1.leads))
    heeds_cause fuel (work.Work slice.Outlet) h =
        inr (at_line guest p exchanges steps q o o' h.1 led, tt)
    heeds_cause fuel (work.Work slice.Memory) h =
        heeds (work.Work slice.Memory) (λ told. told)
        (up_to guest p exchanges steps q h.3 h.4)
    heeds_cause fuel (work.Work slice.Failed) h =
        heeds (work.Work slice.Failed) (λ told. told) (at_store guest p exchanges steps q h.1)
    heeds_cause fuel (work.Work (slice.Refused refusal.StepsSpent)) h =
        heeds (work.Work (slice.Refused refusal.StepsSpent)) (λ told. told)
        (up_to guest p exchanges steps q h.2 h.3)
    heeds_cause fuel (work.Work (slice.Refused (refusal.Module why))) h = absurd h
    heeds_cause fuel (work.Disk why) h =
        heeds (work.Disk why) (λ told. told) (at_disk guest p exchanges steps q h.1)
    heeds_cause fuel (work.Store why) h =
        heeds (work.Store why) (λ told. told)
        (at_store guest p exchanges steps q
        (stops_at_store guest p fuel exchanges steps q why h))
    heeds_cause fuel (work.Upgrade why) h = absurd h

module _ {S O : Type 0} (gives : Giving S) (takes : Taking O) (fuel : ℕ) (s t : S) (o p : O) where
  pub slice_takes : (old new : WorkerValue) (why : Now)
      → (old.failed ≡ false → IsProcess old.process)
      → Slices gives takes old fuel why new (ports s o) (ports t p) → TakesEach takes o p
  slice_takes old new why shows slices =
      let is = shows slices.had_not_failed in
      let works = slices.shown is.guest is.process is.shows in
      by_taken takes works.0.exchanges o p
      (by_leads is.guest is.process works.0.exchanges works.0.steps works.0.process works.0.leads)
      works.0.exchanged.released

  -- a slice that fails, of a worker that had failed or not
  pub slice_heeds : (old new : ProcessValue) (why : WorkFault) (has_failed : Bool)
      → (has_failed ≡ false → IsProcess old)
      → (has_failed ≡ false → SlicesOnDiskInVain gives takes old fuel why new (ports s o)
      (ports t p))
      → (has_failed ≡ true
      → ◌≡◌ {A = Result Now WorkFault} (Err why) (Err (work.Work slice.Failed)))
      → (has_failed ≡ true → p ≡ o) → HeedsOutlet takes (IsOutletsCall why) o p
  slice_heeds old new why false shows vain failed silent =
      let is = shows refl in
      let fails = vain refl is.guest is.process is.shows in
      heeds_cause takes is.guest is.process fails.0.exchanges fails.0.steps fails.0.process o p
      fails.0.exchanged.released fuel why fails.1
  slice_heeds old new why true shows vain failed silent = inl (
    subst (TakesEach takes o) (sym (silent refl)) (none_told takes o),
    λ told. subst IsOutletsCall
        (same_fault gives takes why (work.Work slice.Failed) (failed refl)) told,
  )

-- ---- a batch

each_taking : (told : List NumberedLine) → AllByRecursion WasTaken (map taking told)
each_taking [] = tt
each_taking (line ∷ told) = (refl, each_taking told)

front_taken : (front back : List Begun) → AllByRecursion WasTaken (front ++ back)
    → AllByRecursion WasTaken front
front_taken [] back all = tt
front_taken (begun ∷ front) back all = (all.0, front_taken front back all.1)

module _ {O : Type 0} (takes : Taking O) (told : List NumberedLine) (o p : O) where
  -- the first of its lines were told
  some_heed : (why : WorkFault) → (IsOutletsCall why → ⊥) → (front back : List Begun)
      → map taking told ≡ front ++ back → Releases takes o front p
      → HeedsOutlet takes (IsOutletsCall why) o p
  some_heed why other front back is led = inl (
    record {
      releases = front;
      led = led;
      taken = front_taken front back (subst (AllByRecursion WasTaken) is (each_taking told));
    },
    other,
  )

  front_heeds : (why : WorkFault) → (IsOutletsCall why → ⊥)
      → TellsFront takes (map taking told) o p → HeedsOutlet takes (IsOutletsCall why) o p
  front_heeds why other h = some_heed why other h.0 h.1 h.2 h.3

  whole_heeds : (why : WorkFault) → (IsOutletsCall why → ⊥)
      → Releases takes o (map taking told) p → HeedsOutlet takes (IsOutletsCall why) o p
  whole_heeds why other led =
      some_heed why other (map taking told) [] (sym (append-nil (map taking told))) led

  told_heeds : (untaken : Type 0) (why : WorkFault)
      → ToldUpTo takes untaken why (map taking told) o p
      → HeedsOutlet takes (IsOutletsCall why) o p
  told_heeds untaken (work.Work slice.Source) h =
      whole_heeds (work.Work slice.Source) (λ none. none) h
  told_heeds untaken (work.Work slice.Outlet) h =
      let r = leads_before (Released takes) o p h.0 (record h.1 { said = Err h.3 }) h.5 in
      inr (
        record {
          between = r.0;
          before = record {
            releases = h.0;
            led = r.1;
            taken = front_taken h.0 (h.1 ∷ h.2)
                (subst (AllByRecursion WasTaken) h.4 (each_taking told));
          };
          last = record h.1 { said = Err h.3 };
          released = r.2;
          fault = h.3;
          said = refl;
        },
        tt,
      )
  told_heeds untaken (work.Work slice.Memory) h =
      ⊎_elim (λ all. whole_heeds (work.Work slice.Memory) (λ none. none) all)
      (λ some. front_heeds (work.Work slice.Memory) (λ none. none) some.1) h
  told_heeds untaken (work.Work slice.Failed) h =
      front_heeds (work.Work slice.Failed) (λ none. none) h
  told_heeds untaken (work.Work (slice.Refused why)) h =
      ⊎_elim (λ all. whole_heeds (work.Work (slice.Refused why)) (λ none. none) all)
      (λ some. front_heeds (work.Work (slice.Refused why)) (λ none. none) some.1) h
  told_heeds untaken (work.Disk why) h = front_heeds (work.Disk why) (λ none. none) h
  told_heeds untaken (work.Store why) h =
      front_heeds (work.Store why) (λ none. none)
      (store_tells_front takes untaken why (map taking told) o p h)
  told_heeds untaken (work.Upgrade why) h = front_heeds (work.Upgrade why) (λ none. none) h

-- one that fails, of a worker that had failed or not
module _ {S O : Type 0} (gives : Giving S) (takes : Taking O) (fuel : ℕ) (s t : S) (o p : O) where
  pub batch_heeds : (old new : ProcessValue) (why : WorkFault) (has_failed : Bool)
      → (has_failed ≡ false → IsProcess old)
      → (has_failed ≡ false → BatchFails gives takes old fuel why new (ports s o) (ports t p))
      → (has_failed ≡ true
      → ◌≡◌ {A = Result Now WorkFault} (Err why) (Err (work.Work slice.Failed)))
      → (has_failed ≡ true → p ≡ o) → HeedsOutlet takes (IsOutletsCall why) o p
  batch_heeds old new why false shows vain failed silent =
      let is = shows refl in
      let batch = vain refl is.guest is.process is.shows in
      told_heeds takes batch.0 o p (HasUntakenAnswer is.guest is.process batch.1.exchanges
      batch.1.steps batch.1.process) why batch.2
  batch_heeds old new why true shows vain failed silent = inl (
    subst (TakesEach takes o) (sym (silent refl)) (none_told takes o),
    λ told. subst IsOutletsCall
        (same_fault gives takes why (work.Work slice.Failed) (failed refl)) told,
  )
