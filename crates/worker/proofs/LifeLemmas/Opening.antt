-- How a life opens, or doesn't.
use Rattle.std.proofs.Common.{◌≡◌, ℕ, ◌+◌, ◌<◌, ◌≤◌, List, [], ◌∷◌, ◌++◌, refl, sym, ap, ◌∙◌}
use Rattle.std.proofs.Common.{length, length-append, subst, inl, inr, ⊎_elim, arith}
use Rattle.std.proofs.lemmas.List.{append-nil}
use Rattle.std.specs.Prelude.{◌⊎◌, Result, Ok, Err, IfErr, Some, None, false, true, map}
use Rattle.wasm_syntax.specs.declared.module.Module.{Module}
use Rattle.wasm_rules.specs.Acceptance.{IsAccepted}
use Rattle.wasi_abi.specs.declared.numbers.TheConstants.{NUMBERS_END}
use Rattle.wasi_abi.specs.rules.Configs.{Settings}
use Rattle.machine.specs.rules.Offers.{offer}
use Rattle.process_rules.specs.Processes.{ProcessState, Guest}
use Rattle.state_image.specs.rules.Saving.{saved_of}
use Rattle.sector_disk.specs.rules.DiskImage.{DiskImage}
use Rattle.sector_disk.specs.rules.Medium.{Medium, CallsUpTo}
use Rattle.disk_layout.specs.declared.fault.LayoutFault.TheVariants as layout
use Rattle.disk_layout.specs.rules.Places.{Geometry, geometry_of, total_sectors}
use Rattle.disk_layout.specs.rules.Unsynced.{most_unsynced}
use Rattle.record_replay.specs.rules.Calls.{Taking, Begun, Exchange, Tells, Releases}
use Rattle.worker_store.specs.restart_theorem.Lives.{Inputs, Cause, OfDisk, OfMemory, OfOutlet}
use Rattle.worker_store.specs.restart_theorem.Lives.{OfBounds, Event}
use Rattle.worker_store.specs.restart_theorem.Lives.{Beginning, Creates, Opened, told_in}
use Rattle.worker_store.specs.restart_theorem.Lives.Beginning.{Recovers as recovers}
use Rattle.worker_store.specs.restart_theorem.Courses.{Stage, Phase, Shut, at_first, at_beginning}
use Rattle.worker_store.specs.restart_theorem.Courses.{stage_after, HasFailed, IsCutIn}
use Rattle.worker_store.specs.restart_theorem.Promises.{Promise, as_begun, after, promised, AreKept}
use Rattle.worker_store.specs.restart_theorem.Promises.{OpensAnew}
use Rattle.worker_store.specs.restart_theorem.Holds.{IsNothingYet, KeepsPromise, KeepsBounds}
use Rattle.worker_store.specs.rules.BetweenCalls.{IsForetold}
use Rattle.worker_store.proofs.LawLemmas.Pieces.{parts_are_foretold}
use Rattle.worker_store.specs.declared.fault.StoreFault.TheVariants as store
use Rattle.record_replay.specs.declared.fault.ReplayFault.TheVariants as replay
use Rattle.record_replay.specs.declared.slices.fault.SliceFault.TheVariants as slice
use Rattle.record_replay.specs.declared.slices.fault.Refusal.TheVariants as refusal
use Rattle.worker.specs.declared.fault.WorkFault.{WorkFault}
use Rattle.worker.specs.declared.fault.WorkFault.TheVariants.{Work, Disk, Store, Upgrade}
use Rattle.worker.specs.declared.recover_fault.RecoverFault.{RecoverFault}
use Rattle.worker.specs.declared.recover_fault.RecoverFault.TheVariants.{Worker, Layout, Replay}
use Rattle.worker.specs.rules.CallCounts.{most_calls, most_creating, most_recovering}
use Rattle.worker.specs.rules.CallCounts.{CallsForEvents}
use Rattle.worker.specs.rules.DurableValues.{DurableValue}
use Rattle.worker.specs.rules.OpenWorkers.{IsOpenOn}
use Rattle.worker.specs.rules.DurableCreations.{CreationKeeps, IsNotCreatedOn, OpensOn}
use Rattle.worker.specs.rules.DurableCreations.{OpensOrNot, LeavesCreation}
use Rattle.worker.specs.rules.Recoveries.{SaysNoWorker, Reopens, ReopensInVain, FindsNone}
use Rattle.worker.specs.rules.Recoveries.{ReopensOrNot, EndsInVain, MayNotReopen}
use Rattle.worker.specs.rules.ShownDisks.{Recovers}
use Rattle.worker.specs.rules.OneLife.{BeginsLife, recovered, created, opened_by, IsCauseOf}
use Rattle.worker.specs.rules.OneLife.{opened_in, recipe}
use Rattle.worker.specs.rules.Scenes.{Site, site}
use Rattle.worker.specs.laws.OneLife.{IsLater, released_in}
use Rattle.worker.proofs.CallCountLemmas.{calls_once}
use Rattle.worker.proofs.LifeLemmas.Joined.{stage_join, kept_split, counts_grow, told_join}
use Rattle.worker.proofs.LifeLemmas.Joined.{opened_behind, told_are, none_opens, acts_stay}
use Rattle.worker.proofs.LifeLemmas.Called.{later_still, passed_later, HasDiskCause}
use Rattle.worker.proofs.LifeLemmas.Called.{bounds_in_the_end}

-- ---- what is said of the disk

some_writes : (g : Geometry) → 1 ≤ most_unsynced g
some_writes g = omega arith

-- a recovery that says that there is no worker has found none
finds_none : (m : Module) (config : Settings) (promise : Promise) (inputs : Inputs)
    (told : List Begun) (result : Result DurableValue RecoverFault) (old new : Medium)
    → SaysNoWorker result → ReopensOrNot m config promise inputs told result old new
    → FindsNone promise told old new
finds_none m config promise inputs told (Err (Layout layout.NotAWorker)) old new says reopens =
    reopens
finds_none m config promise inputs told (Ok w) old new says reopens = absurd says
finds_none m config promise inputs told (Err other) old new says reopens = absurd says

-- any other error is one of the worker there
in_vain : (m : Module) (config : Settings) (promise : Promise) (inputs : Inputs)
    (told : List Begun) (why : RecoverFault) (old new : Medium)
    → (SaysNoWorker {T = DurableValue} (Err why) → ⊥)
    → EndsInVain m config promise inputs told why old new
    → ReopensInVain m config promise inputs told why old new
in_vain m config promise inputs told (Layout layout.NotAWorker) old new says reopens =
    absurd (says tt)
in_vain m config promise inputs told other old new says reopens = reopens

module _ (m : Module) (config : Settings) (so_far : Promise) (inputs : Inputs) where
  -- where it begins by a creation, nothing has opened before, and it opens anew
  abbrev pub IsAnew : Beginning → List Event → Type 0
  IsAnew begins events = begins ≡ Creates
      → (so_far.has_opened ≡ false) × ((more : List Event) → OpensAnew (events ++ more))

  -- the life is open
  pub record IsOpened (begins : Beginning) (exchanges : List Exchange) (w : DurableValue)
      (old new : Medium) : Type 0 where
    pub events : List Event
    pub kept : AreKept m config so_far (at_beginning begins inputs) events
    pub told : told_in events ≡ released_in exchanges
    pub shown : opened_in events ≡ Some (saved_of w.process)
    pub guest : Guest
    pub process : ProcessState
    pub opened : IsOpenOn m config guest (promised so_far events)
        (stage_after (at_beginning begins inputs) events) process w new
    pub acts : (stage_after (at_beginning begins inputs) events).acts ≡ inputs.acts
    pub keeps : KeepsPromise m config (promised so_far events) new
    pub bounded : KeepsBounds (promised so_far events).events new
    pub later : IsLater old new
    pub counted : CallsForEvents (length events) old new
    pub foretold : (rest : List Exchange)
        → IsForetold (at_beginning begins inputs) (exchanges ++ rest)
        → IsForetold (stage_after (at_beginning begins inputs) events) rest
    pub anew : IsAnew begins events

  -- why a life isn't opened, where it is so
  pub record HasNotOpened (events : ℕ) (phase : Phase) (why : RecoverFault) (old last : Medium)
      : Type 0 where
    pub cause : Cause
    pub is : IsCauseOf why cause
    pub failed : HasFailed events phase cause
    pub cut : IsCutIn phase
    pub disk : HasDiskCause config why old last

  pub record IsUnopenedBy (begins : Beginning) (exchanges : List Exchange) (why : RecoverFault)
      (old last : Medium) : Type 0 where
    pub events : List Event
    pub kept : AreKept m config so_far (at_beginning begins inputs) events
    pub told : told_in events ≡ released_in exchanges
    pub shut : opened_in events ≡ None
    pub because : HasNotOpened (promised so_far events).events
        (stage_after (at_beginning begins inputs) events).phase why old last
    pub keeps : KeepsPromise m config (promised so_far events) last
    pub bounded : KeepsBounds ((promised so_far events).events + 1) last
    pub later : IsLater old last
    pub counted : CallsForEvents (length events + 1) old last
    pub anew : begins ≡ Creates → (so_far.has_opened ≡ false) × OpensAnew events

  abbrev pub OpensSo : Beginning → List Exchange → Result DurableValue RecoverFault → Medium
      → Medium → Type 0
  OpensSo begins exchanges (Ok w) old new = IsOpened begins exchanges w old new
  OpensSo begins exchanges (Err why) old new = IsUnopenedBy begins exchanges why old new

  -- ---- a recovery

  reopened : (told : List Begun) (w : DurableValue) (old new : Medium)
      → Reopens m config so_far inputs told w old new
      → IsOpened recovers (map Tells told) w old new
  reopened told w old new r =
      let end : Event = Opened r.held (saved_of w.process) in
      let all : List Event = r.events ++ end ∷ [] in
      let leaves = r.at_any_moment in
      let joined = stage_join (at_first inputs) r.events (end ∷ []) in
      record {
        events = all;
        kept = r.kept;
        told = told_join r.events (end ∷ []) ∙ append-nil (told_in r.events)
            ∙ told_are (map Tells told) r.events r.are;
        shown = opened_behind r.events (end ∷ []) (none_opens (map Tells told) r.events r.are);
        guest = r.guest;
        process = r.process;
        opened = r.opened;
        acts = ap (λ (s : Stage). s.acts) joined
            ∙ acts_stay (at_first inputs) (map Tells told) r.events r.are;
        keeps = r.in_the_end;
        bounded = bounds_in_the_end (promised so_far all).events old new r.bounded;
        later = passed_later old new _ leaves.passes;
        counted = calls_once (most_recovering old.sectors) (length all) old new r.counted
            (omega arith) (omega (arith, length-append r.events (end ∷ [])));
        foretold = λ rest foretold.
            let first = parts_are_foretold m config so_far (promised so_far r.events)
            (at_first inputs) (stage_after (at_first inputs) r.events) (map Tells told) rest
            foretold in
            subst (λ (s : Stage). IsForetold s rest) (sym joined) (first.0 (record {
              events = r.events;
              are = r.are;
              kept = (kept_split m config so_far (at_first inputs) r.events (end ∷ []) r.kept).0;
              promised_is = refl;
              stage_is = refl;
            }));
        anew = λ creates. absurd (cc);
      }

  -- why it fails
  why_in_vain : (events : ℕ) (phase : Phase) (why : RecoverFault) (old new : Medium)
      → so_far.events ≤ events → MayNotReopen config so_far phase why old new
      → HasNotOpened events phase why old new
  why_in_vain events phase (Replay replay.Memory) old new grow may = record {
    cause = OfMemory;
    is = refl;
    failed = subst (λ (z : Phase). HasFailed events z OfMemory) (sym may) tt;
    cut = subst IsCutIn (sym may) tt;
    disk = tt;
  }
  why_in_vain events phase (Replay replay.Outlet) old new grow may = record {
    cause = OfOutlet;
    is = refl;
    failed = subst (λ (z : Phase). HasFailed events z OfOutlet) (sym may) tt;
    cut = subst IsCutIn (sym may) tt;
    disk = tt;
  }
  why_in_vain events phase (Worker (Disk fault)) old new grow may = record {
    cause = OfDisk;
    is = refl;
    failed = subst (λ (z : Phase). HasFailed events z OfDisk) (sym may.0) tt;
    cut = subst IsCutIn (sym may.0) tt;
    disk = may.1;
  }
  why_in_vain events phase (Worker (Store store.TooBig)) old new grow may =
      let late = may.1 in
      let still : NUMBERS_END ≤ events + 1 = omega (arith, grow, late) in
      record {
        cause = OfBounds;
        is = refl;
        failed = subst (λ (z : Phase). HasFailed events z OfBounds) (sym may.0) still;
        cut = subst IsCutIn (sym may.0) tt;
        disk = tt;
      }
  why_in_vain events phase (Worker (Work why)) old new grow may = absurd may.1
  why_in_vain events phase (Worker (Store why)) old new grow may = absurd may.1
  why_in_vain events phase (Worker (Upgrade why)) old new grow may = absurd may.1
  why_in_vain events phase (Replay replay.Diverged) old new grow may = absurd may.1
  why_in_vain events phase other old new grow may = record {
    cause = OfMemory;
    is = (may.1, refl);
    failed = subst (λ (z : Phase). HasFailed events z OfMemory) (sym may.0) tt;
    cut = subst IsCutIn (sym may.0) tt;
    disk = tt;
  }

  reopened_in_vain : (told : List Begun) (why : RecoverFault) (old new : Medium)
      → ReopensInVain m config so_far inputs told why old new
      → IsUnopenedBy recovers (map Tells told) why old new
  reopened_in_vain told why old new r =
      let carried = r.carried in
      record {
        events = r.events;
        kept = r.kept;
        told = told_are (map Tells told) r.events r.are;
        shut = none_opens (map Tells told) r.events r.are;
        because = why_in_vain (promised so_far r.events).events
            (stage_after (at_first inputs) r.events).phase why old new
            (counts_grow so_far r.events) r.may;
        keeps = carried.in_the_end;
        bounded = bounds_in_the_end ((promised so_far r.events).events + 1) old new r.bounded;
        later = passed_later old new _ carried.at_any_moment.passes;
        counted = calls_once (most_recovering old.sectors) (length r.events + 1) old new r.counted
            (omega arith) (omega arith);
        anew = λ creates. absurd (cc);
      }

  -- ---- a creation

  module _ (bytes : List ℕ) (accepted : IsAccepted offer config.pages bytes m)
      (found mid new : Medium) (none : IsNothingYet so_far) (later : IsLater found mid)
      (sectors : total_sectors (geometry_of config (length bytes)) ≤ found.sectors)
      (room : most_unsynced (geometry_of config (length bytes)) ≤ found.room)
      (synced_or_failed : (mid.unsynced ≡ 0) ⊎ (found.faults < mid.faults))
      (before : CallsUpTo (most_recovering found.sectors) found mid) where
    -- the calls of the recovery, and of the creation
    both_called : CallsUpTo (most_creating mid.sectors) mid new
        → CallsUpTo (most_calls found.sectors) found new
    both_called after = let same = later.sectors in omega (arith, before, after, same)

    not_opened_yet : so_far.has_opened ≡ false
    not_opened_yet = ap (λ (p : Promise). p.has_opened) none

    is_later : (now : Promise) → LeavesCreation m config so_far now mid new → IsLater found new
    is_later now leaves =
        let carried = leaves.carried in
        later_still found mid new later (passed_later mid new _ carried.at_any_moment.passes)

    created_opens : (w : DurableValue) → OpensOn m config so_far inputs w mid new
        → LeavesCreation m config so_far (after so_far (Opened 0 (saved_of w.process))) mid new
        → IsOpened Creates [] w found new
    created_opens w on leaves =
        let end : Event = Opened 0 (saved_of w.process) in
        let anew = on.anew in
        let carried = leaves.carried in
        record {
          events = end ∷ [];
          kept = on.kept;
          told = refl;
          shown = refl;
          guest = on.guest;
          process = on.process;
          opened = on.opened;
          acts = refl;
          keeps = carried.in_the_end;
          bounded = bounds_in_the_end (so_far.events + 1) mid new leaves.bounded;
          later = is_later (after so_far end) leaves;
          counted = calls_once (most_calls found.sectors) 1 found new
              (both_called leaves.counted) (omega arith) (omega arith);
          foretold = λ rest foretold. foretold;
          anew = λ creates. (not_opened_yet, λ more. anew);
        }

    -- why it fails
    few_writes : (spare : mid.room ≡ 0) → ⊥
    few_writes none_there =
        let some = some_writes (geometry_of config (length bytes)) in
        let same = later.room in absurd (omega (arith, some, room, same, none_there))

    why_not_created : (why : WorkFault) → IsLater mid new
        → IsNotCreatedOn bytes config mid new why
        → HasNotOpened so_far.events Shut (Worker why) found new
    why_not_created (Work (slice.Refused (refusal.Module why))) after is = absurd (is.2 m accepted)
    why_not_created (Work (slice.Refused refusal.StepsSpent)) after is = absurd is
    why_not_created (Work slice.Memory) after is = record {
      cause = OfMemory;
      is = refl;
      failed = tt;
      cut = tt;
      disk = tt;
    }
    why_not_created (Work other) after is = absurd is
    why_not_created (Store (store.Layout layout.TooSmall)) after is =
        let same = later.sectors in absurd (omega (arith, is, sectors, same))
    why_not_created (Store other) after is = absurd is
    why_not_created (Upgrade why) after is = absurd is
    why_not_created (Disk fault) after (inl full) = record {
      cause = OfDisk;
      is = refl;
      failed = tt;
      cut = tt;
      disk = ⊎_elim (λ (synced : mid.unsynced ≡ 0).
          absurd (few_writes (omega (arith, full, synced))))
          (λ (failed : found.faults < mid.faults).
          let more = after.faults in inr (omega (arith, failed, more))) synced_or_failed;
    }
    why_not_created (Disk fault) after (inr (inl few)) =
        let same = later.room in absurd (omega (arith, few, room, same))
    why_not_created (Disk fault) after (inr (inr failed)) =
        let before = later.faults in
        record {
          cause = OfDisk;
          is = refl;
          failed = tt;
          cut = tt;
          disk = inr (omega (arith, failed, before));
        }

    created_in_vain : (why : WorkFault) → LeavesCreation m config so_far so_far mid new
        → IsNotCreatedOn bytes config mid new why → IsUnopenedBy Creates [] (Worker why) found new
    created_in_vain why leaves is =
        let carried = leaves.carried in
        record {
          events = [];
          kept = tt;
          told = refl;
          shut = refl;
          because = why_not_created why (passed_later mid new _ carried.at_any_moment.passes) is;
          keeps = carried.in_the_end;
          bounded = bounds_in_the_end (so_far.events + 1) mid new leaves.bounded;
          later = is_later so_far leaves;
          counted = calls_once (most_calls found.sectors) 1 found new
              (both_called leaves.counted) (omega arith) (omega arith);
          anew = λ creates. (not_opened_yet, tt);
        }

  -- ---- either

  module _ {D O : Type 0} (medium : D → Medium) (takes : Taking O) (bytes : List ℕ) (found disk : D)
    where
      recovered_so : (told : List Begun) (result : Result DurableValue RecoverFault)
          → (SaysNoWorker result → ⊥)
          → ReopensOrNot m config so_far inputs told result (medium found) (medium disk)
          → OpensSo recovers (map Tells told) result (medium found) (medium disk)
      recovered_so told (Ok w) says reopens =
          reopened told w (medium found) (medium disk) reopens
      recovered_so told (Err why) says reopens =
          reopened_in_vain told why (medium found) (medium disk)
          (in_vain m config so_far inputs told why (medium found) (medium disk) says reopens)

      module _ (accepted : IsAccepted offer config.pages bytes m) (mid : D)
          (sectors : total_sectors (geometry_of config (length bytes)) ≤ (medium found).sectors)
          (room : most_unsynced (geometry_of config (length bytes)) ≤ (medium found).room)
          (synced_or_failed : ((medium mid).unsynced ≡ 0) ⊎
          ((medium found).faults < (medium mid).faults)) (image : DiskImage)
          (leaves : (medium mid).crash_images image) (begun : so_far.was_created ≡ true) where
        created_so : (told : List Begun) (result : Result DurableValue WorkFault)
            → FindsNone so_far told (medium found) (medium mid)
            → CreationKeeps bytes config result (medium mid) (medium disk)
            → IfErr result (IsNotCreatedOn bytes config (medium mid) (medium disk))
            → OpensSo Creates (map Tells told) (opened_by result) (medium found) (medium disk)
        created_so told result none creation causes =
            let here = none.unopened image leaves in
            let bounded = none.bounded in
            let passes = bounded.passes in
            let later : IsLater (medium found) (medium mid) =
            passed_later (medium found) (medium mid) _ passes in
            subst (λ (l : List Begun). OpensSo Creates (map Tells l) (opened_by result)
            (medium found) (medium disk)) (sym none.none_told)
            (by result later here.0 (creation m so_far inputs accepted here.0 begun) causes)
          where
            by : (result : Result DurableValue WorkFault) → IsLater (medium found) (medium mid)
                → IsNothingYet so_far
                → OpensOrNot m config so_far inputs result (medium mid) (medium disk)
                → IfErr result (IsNotCreatedOn bytes config (medium mid) (medium disk))
                → OpensSo Creates [] (opened_by result) (medium found) (medium disk)
            by (Ok w) later nothing opens causes =
                created_opens bytes accepted (medium found) (medium mid) (medium disk) nothing later
                sectors room synced_or_failed none.counted w opens
                (opens.leaves (λ other crashed. (none.unopened other crashed).1))
            by (Err why) later nothing opens causes =
                created_in_vain bytes accepted (medium found) (medium mid) (medium disk) nothing
                later sectors room synced_or_failed none.counted why
                (opens (λ other crashed. (none.unopened other crashed).1)) causes

  -- the disk has no unsynced write, or has failed
  is_synced_or_failed : {D O : Type 0} (medium : D → Medium) (takes : Taking O)
      (result : Result DurableValue RecoverFault) (old new : D) (outlet outlet' : O)
      → SaysNoWorker result → Recovers medium takes result old new outlet outlet'
      → ((medium new).unsynced ≡ 0) ⊎ ((medium old).faults < (medium new).faults)
  is_synced_or_failed medium takes result old new outlet outlet' says (inl failed_sync) =
      inr failed_sync.faulted
  is_synced_or_failed medium takes result old new outlet outlet' says (inr by) =
      let reads = (by.3 says).0 in
      let sync = by.1 in
      let clean = sync.all_synced in inl (reads.unsynced ∙ clean.unsynced)

-- A disk without a worker has none also where a creation is begun now.
none_as_begun : (so_far : Promise) (told : List Begun) (old new : Medium)
    → FindsNone so_far told old new → FindsNone (as_begun Creates so_far) told old new
none_as_begun so_far told old new none = record {
  none_told = none.none_told;
  unopened = λ image crashed. let is = none.unopened image crashed in
      (ap (λ (p : Promise). as_begun Creates p) is.0, is.1);
  bounded = none.bounded;
  counted = none.counted;
}

-- What is told while a life opens, and how it opens, whatever was put in that this makes true.
abbrev pub OpeningIs : Module → Settings → Promise → {O : Type 0} → Taking O → List ℕ → Beginning
    → Result DurableValue RecoverFault → Medium → Medium → O → O → Type 0
OpeningIs m config so_far takes bytes begins result found disk outlet outlet' = (told : List Begun)
    × Releases takes outlet told outlet'
    × ((inputs : Inputs) → total_sectors (geometry_of config (length bytes)) ≤ found.sectors
    → most_unsynced (geometry_of config (length bytes)) ≤ found.room
    → IsForetold (at_first inputs) (map Tells told)
    → OpensSo m config (as_begun begins so_far) inputs begins (map Tells told) result found disk)

pub opening : (m : Module) (config : Settings) (so_far : Promise) {D O : Type 0}
    (medium : D → Medium) (takes : Taking O) (bytes : List ℕ) (found : D) (outlet : O)
    (here : Site D O) (begins : Beginning) (result : Result DurableValue RecoverFault)
    → IsAccepted offer config.pages bytes m → KeepsPromise m config so_far (medium found)
    → KeepsBounds so_far.events (medium found)
    → BeginsLife medium takes (recipe bytes config) (site found outlet) begins result here
    → OpeningIs m config so_far takes bytes begins result (medium found) (medium here.disk) outlet
    here.outlet
opening m config so_far medium takes bytes found outlet here begins result accepted keeps bounded
    (recovered {disk = disk} image leaves says by recovery) =
    let did = recovery m config so_far image leaves keeps bounded in (
      did.0,
      did.1,
      λ inputs sectors room foretold.
          recovered_so m config so_far inputs medium takes bytes found disk did.0 result says
          (did.2 inputs foretold),
    )
opening m config so_far medium takes bytes found outlet here begins result accepted keeps bounded
    (created {mid = mid} {disk = disk} {outlet = outlet'} none made image leaves says by recovery
    creation causes) =
    let did = recovery m config so_far image leaves keeps bounded in (
      did.0,
      did.1,
      λ inputs sectors room foretold.
          created_so m config (as_begun Creates so_far) inputs medium takes bytes found disk
          accepted mid sectors room
          (is_synced_or_failed m config so_far inputs medium takes none found mid outlet
          outlet' says by) image leaves refl did.0 made
          (none_as_begun so_far did.0 (medium found) (medium mid)
          (finds_none m config so_far inputs did.0 none (medium found) (medium mid) says
          (did.2 inputs foretold))) creation causes,
    )
