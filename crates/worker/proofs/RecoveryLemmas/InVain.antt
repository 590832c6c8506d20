-- A recovery that fails, as events of a life, and what its disk holds.
use Rattle.std.proofs.Common.{◌≡◌, ◌⊎◌, inl, inr, ℕ, suc, ◌+◌, ◌-◌, ◌*◌, ◌<◌, ◌≤◌, max, List}
use Rattle.std.proofs.Common.{[], length, drop, refl, sym, ap, subst, arith}
use Rattle.std.specs.Prelude.{map}
use Rattle.wasm_syntax.specs.declared.module.Module.{Module}
use Rattle.wasi_abi.specs.rules.Configs.{Settings}
use Rattle.process_rules.specs.Processes.{ProcessState}
use Rattle.wasi_calls_rules.specs.WasiStates.{Line}
use Rattle.process.specs.rules.Values.{ProcessValue}
use Rattle.state_image.specs.rules.ProcessImage.{process_image}
use Rattle.state_image.specs.rules.Saving.{saved_of}
use Rattle.sector_disk.specs.declared.sector.TheConstants.{SECTOR_SIZE}
use Rattle.sector_disk.specs.rules.Medium.{Medium, LeavesOnly, spare, CallsUpTo}
use Rattle.sector_disk.proofs.Moments.{leaves_weaker}
use Rattle.disk_layout.specs.declared.fault.LayoutFault.TheVariants as layout
use Rattle.disk_layout.specs.declared.geometry.Geometry.{Geometry}
use Rattle.disk_layout.specs.rules.Places.{geometry_of, total_sectors}
use Rattle.record_replay.specs.declared.fault.ReplayFault.{ReplayFault}
use Rattle.record_replay.specs.declared.fault.ReplayFault.TheVariants as replay
use Rattle.record_replay.specs.rules.Calls.{Taking, Begun, Tells, Releases, all_taken, last_refused}
use Rattle.record_replay.specs.rules.Replays.{ReplaysUpTo, RefusesFrom, StopsReplay}
use Rattle.worker_store.specs.restart_theorem.Lives.{Inputs}
use Rattle.worker_store.specs.restart_theorem.Courses.{Stage, Phase, Shut, at_first}
use Rattle.worker_store.specs.restart_theorem.Promises.{Promise}
use Rattle.worker_store.specs.restart_theorem.Holds.{DiskImageHolds, KeepsPromise, CarriesPromise}
use Rattle.worker_store.specs.restart_theorem.Holds.{IsBounded, KeepsBounds, StaysWithin}
use Rattle.worker_store.specs.restart_theorem.Exchanges.{none as no_event}
use Rattle.worker_store.specs.rules.BetweenCalls.{IsForetold}
use Rattle.worker_store.specs.laws.Telling.{ArePerformed, AddsLines}
use Rattle.worker_store.specs.laws.Reopening.{IsReviving}
use Rattle.worker_store.specs.rules.Carried.{count_at, IsHeldAt}
use Rattle.worker_store.proofs.LawLemmas.Carrying.{held_at_holds_promise}
use Rattle.worker_store.proofs.LawLemmas.Passing.{crashed_in_the_end}
use Rattle.worker_store.proofs.LawLemmas.Recovering.{retold_is_held}
use Rattle.worker_store.proofs.LawLemmas.Reopening.{lines_are_retold, lines_are_retold_in_vain}
use Rattle.worker_store.specs.declared.fault.StoreFault.{StoreFault}
use Rattle.worker_store.specs.declared.fault.StoreFault.TheVariants as store
use Rattle.worker_store.specs.laws.Laws.{ProcessImagesFitAreas}
use Rattle.worker_store.specs.rules.Calls.{ReopeningFails}
use Rattle.worker.specs.declared.found.Found.{Found}
use Rattle.worker.specs.declared.recover_fault.RecoverFault.{RecoverFault}
use Rattle.worker.specs.declared.recover_fault.RecoverFault.TheVariants as recover
use Rattle.worker.specs.rules.CallCounts.{most_recovering}
use Rattle.worker.specs.rules.DurableCalls.{TakesTooFew}
use Rattle.worker.specs.rules.WorkFaults.{fault_of_store}
use Rattle.worker.specs.rules.Recoveries.{IsNoWorker, IsJustSynced, MayNotReopen}
use Rattle.worker.specs.rules.Recoveries.{ReopensInVain, EndsInVain}
use Rattle.worker.specs.Revivals.{IsReplayed, StopsInVain, OpensNone}
use Rattle.worker.proofs.EnoughLemmas.{with_enough}
use Rattle.worker.proofs.RecoveryLemmas.Undiverged.{undiverged, lines_within}
use Rattle.worker.proofs.RecoveryLemmas.There.{IsThere}
use Rattle.worker.proofs.RecoveryLemmas.Lives.{IsBack, come_lives, is_back}
use Rattle.worker.proofs.RecoveryLemmas.Lives.{released_lines, tells_as, fits_area}
use Rattle.worker.proofs.RecoveryLemmas.NextPoint.{HasNext, has_next}
use Rattle.worker.proofs.RecoveryLemmas.Written.{first_holds, first_within, below_next, IsRetold}
use Rattle.worker.proofs.RecoveryLemmas.Written.{is_retold, moments_hold, moments_within}
use Rattle.worker.proofs.DurableLemmas.Bounds.{within_later}

-- ---- why a disk fails

-- It takes fewer writes between two syncs than an area has sectors, or it has failed since.
too_few : (config : Settings) (old mid new : Medium) (area : ℕ)
    → area ≡ (geometry_of config 0).area_sectors → mid.unsynced ≡ 0 → mid.room ≡ old.room
    → old.faults ≤ mid.faults
    → (spare mid < area) ⊎ (mid.room ≡ 0) ⊎ (mid.faults < new.faults)
    → TakesTooFew config old ⊎ (old.faults < new.faults)
too_few config old mid new area is none same earlier (inl few) =
    inl (inr (less mid.room mid.unsynced old.room area (geometry_of config 0).area_sectors few none
    same is))
  where
    less : (room unsynced before area many : ℕ) → room - unsynced < area → unsynced ≡ 0
        → room ≡ before → area ≡ many → before < many
    less room unsynced before area many few none same is = omega (arith, few, none, same, is)
too_few config old mid new area is none same earlier (inr (inl nothing)) =
    inl (inr (some old.room mid.room same nothing))
  where
    some : (before room : ℕ) → room ≡ before → room ≡ 0
        → before < (geometry_of config 0).area_sectors
    some before room same nothing = omega (arith, same, nothing)
too_few config old mid new area is none same earlier (inr (inr failed)) =
    inr (more old.faults mid.faults new.faults earlier failed)
  where
    more : (a b c : ℕ) → a ≤ b → b < c → a < c
    more a b c x y = omega (arith, x, y)

-- ---- by the error

-- one that doesn't say that there is no worker
pub ends_in_vain : (m : Module) (config : Settings) (promise : Promise) (inputs : Inputs)
    (told : List Begun) (old new : Medium) (why : RecoverFault) → (IsNoWorker why → ⊥)
    → ReopensInVain m config promise inputs told why old new
    → EndsInVain m config promise inputs told why old new
ends_in_vain m config promise inputs told old new (recover.Layout layout.NotAWorker) denies r =
    absurd (denies tt)
ends_in_vain m config promise inputs told old new other denies r = r

-- ---- nothing was told

pub nothing_done : (m : Module) (config : Settings) (promise : Promise) (inputs : Inputs)
    (why : RecoverFault) (old new : Medium) → LeavesOnly old new old.crash_images
    → KeepsPromise m config promise old → KeepsBounds promise.events old
    → MayNotReopen config promise Shut why old new → CallsUpTo (most_recovering old.sectors) old new
    → ReopensInVain m config promise inputs [] why old new
nothing_done m config promise inputs why old new leaves keeps bounds may few = record {
  events = [];
  are = no_event;
  kept = tt;
  carried = record {
    at_any_moment = leaves_weaker old new old.crash_images (DiskImageHolds m config promise promise)
        leaves keeps;
    in_the_end = λ image crashed.
        keeps image (crashed_in_the_end old new old.crash_images leaves image crashed);
  };
  bounded = leaves_weaker old new old.crash_images (IsBounded (promise.events
      + 1) old.sectors) leaves (λ image crashed. within_later promise.events (promise.events
      + 1) old.sectors image (omega arith) (bounds image crashed));
  counted = few;
  may = may;
}

-- ---- lines were told

-- what a recovery has told when it fails, and that this keeps what was promised
abbrev pub FailsSo : {O : Type 0} → Taking O → Module → Settings → Promise → RecoverFault → Medium
    → Medium → O → O → Type 0
FailsSo takes m config promise why old new outlet outlet' =
    (told : List Begun) × Releases takes outlet told outlet'
    × ((inputs : Inputs) → IsForetold (at_first inputs) (map Tells told)
    → EndsInVain m config promise inputs told why old new)

adds_up_to : (promise promise' : Promise) (line most : ℕ) → line ≤ most
    → AddsLines promise line promise' → AddsLines promise most promise'
adds_up_to promise promise' line most le adds = record {
  kept = adds.kept;
  answers = adds.answers;
  steps = adds.steps;
  passed = adds.passed;
  synced = adds.synced;
  created = adds.created;
  opened = adds.opened;
  begun = more promise'.begun line most promise.begun adds.begun le;
  heard = adds.heard;
  events = adds.events;
}
  where
    more : (b line most before : ℕ) → b ≤ max line before → line ≤ most → b ≤ max most before
    more b line most before x y = omega (arith, x, y)

pub refuses_as : {O : Type 0} (takes : Taking O) (a b : ℕ) (p : ProcessState) (outlet outlet' : O)
    → a ≡ b → RefusesFrom takes a p outlet outlet' → RefusesFrom takes b p outlet outlet'
refuses_as takes a b p outlet outlet' same refuses =
    subst (λ n. RefusesFrom takes n p outlet outlet') same refuses

module _ {D O : Type 0} (medium : D → Medium) (takes : Taking O) (m : Module)
    (config : Settings) (promise : Promise) (found : Found) (old mid : D)
    (just_synced : IsJustSynced (medium old) (medium mid))
    (keeps : KeepsPromise m config promise (medium old))
    (bounds : KeepsBounds promise.events (medium old))
    (there : IsThere m config promise found (medium old).sectors (medium mid)) where
  -- the disk is as it was read
  told_in_vain : (inputs : Inputs) (told : List Begun) (why : RecoverFault) (line : ℕ)
      → line ≤ length there.last.host.lines
      → (made : ArePerformed m config promise (at_first inputs) line (map Tells told))
      → MayNotReopen config promise made.stage'.phase why (medium old) (medium mid)
      → ReopensInVain m config promise inputs told why (medium old) (medium mid)
  told_in_vain inputs told why line few made may =
      let done = made.done in
      let adds = made.adds in
      let held : IsHeldAt made.promise' there.point found.records.items there.last =
      retold_is_held m config promise made.promise' there.point found.records.items there.last
      there.held
      (adds_up_to promise made.promise' line (length there.last.host.lines) few made.adds) in
      record {
        events = done.events;
        are = done.are;
        kept = done.kept;
        carried = subst (λ (p : Promise).
            CarriesPromise m config promise p (medium old) (medium mid)) done.promised_is
            (record {
              at_any_moment = first_holds m config promise made.promise' line (medium old)
                  (medium mid) just_synced keeps made.adds;
              in_the_end = λ image crashed.
                  inr (held_at_holds_promise m config made.promise' there.point found.records.items
                  there.last image held (there.all image crashed));
            });
        bounded = subst (λ (p : Promise).
            StaysWithin (p.events + 1) (medium old) (medium mid)) done.promised_is
            (first_within promise (made.promise'.events + 1) (medium old) (medium mid) just_synced
            bounds (below_next promise.events made.promise'.events adds.events));
        counted = omega (arith, just_synced.counted);
        may = subst (λ (s : Stage).
            MayNotReopen config promise s.phase why (medium old) (medium mid)) done.stage_is may;
      }

  module _ (outlet outlet' : O) where
    -- a replay that stops
    module _ (come : ReplaysUpTo there.point.reached.guest there.point.process
        found.records.items) where
      lives : (inputs : Inputs) → IsReviving m config there.point.reached.guest promise
          (at_first inputs) (count_at there.point come.front) there.point.saved.lines come.process
      lives inputs = come_lives m config promise there.point found.records.items there.last
          there.held inputs come

      lines_few : length come.process.host.lines ≤ length there.last.host.lines
      lines_few =
          let held = there.held in
          lines_within there.point.reached.guest there.point.process there.last
          found.records.items held.recorded come

      stop_fails : (fault : ReplayFault)
          → StopsReplay takes found.process.host.released come fault outlet outlet'
          → FailsSo takes m config promise (recover.Replay fault) (medium old) (medium mid) outlet
          outlet'
      stop_fails replay.Diverged stops =
          let held = there.held in
          let some = there.some in
          let at = some.1 in
          absurd (undiverged there.point.reached.guest there.point.process there.last
          found.records.items held.recorded come at.numbers stops.1)
      stop_fails replay.Memory stops =
          let first : ℕ = there.point.saved.lines in
          let lines : List Line = drop first come.process.host.lines in (
            all_taken (suc first) lines,
            tells_as takes found.process.host.released first come.process outlet outlet'
                (released_lines takes m config there.wasm there.point found.records.items found
                there.found_at) stops.0,
            λ inputs foretold.
                let told = lines_are_retold m config there.point.reached.guest promise
                (at_first inputs) (count_at there.point come.front) first (suc first) come.process
                lines (lives inputs) (omega arith) refl foretold in
                let now = told.1 in
                told_in_vain inputs (all_taken (suc first) lines)
                (recover.Replay replay.Memory) (length come.process.host.lines) lines_few
                told.0 now.shut,
          )
      stop_fails replay.Outlet stops =
          let first : ℕ = there.point.saved.lines in
          let r : RefusesFrom takes first come.process outlet outlet' =
          refuses_as takes found.process.host.released first come.process outlet outlet'
          (released_lines takes m config there.wasm there.point found.records.items found
          there.found_at) stops in (
            last_refused (suc first) r.told r.line,
            r.refused,
            λ inputs foretold.
                let told = lines_are_retold_in_vain m config there.point.reached.guest promise
                (at_first inputs) (count_at there.point come.front) first (suc first) come.process
                r.told r.others r.line (lives inputs) (omega arith) r.are foretold in
                told_in_vain inputs (last_refused (suc first) r.told r.line)
                (recover.Replay replay.Outlet) (length come.process.host.lines) lines_few
                told.0 told.1,
          )

    pub stopped_so : (why : RecoverFault) (new : D)
        → StopsInVain takes found why mid new outlet outlet'
        → FailsSo takes m config promise why (medium old) (medium new) outlet outlet'
    stopped_so why new stops =
        let at = there.found_at in
        let come = stops.stops there.point.reached.guest there.point.process at.shows in
        subst (λ (d : D). FailsSo takes m config promise why (medium old) (medium d) outlet
        outlet') (sym stops.same)
        (subst (λ (e : RecoverFault). FailsSo takes m config promise e (medium old) (medium mid)
        outlet outlet') (sym stops.is) (stop_fails come.0 stops.fault come.1))

    -- ---- all lines were told, but the next generation couldn't be written

    module _ (new : D) (v : ProcessValue) (count : ℕ)
        (replayed : IsReplayed takes found v count outlet outlet')
        (fit : ProcessImagesFitAreas) where
      back : IsBack takes there.point there.last v count outlet outlet'
      back =
          let held = there.held in
          is_back takes m config there.wasm there.point found.records.items found there.found_at
          there.last held.recorded v count outlet outlet' replayed

      process_image_fits : length (process_image (saved_of v)) ≤ SECTOR_SIZE
          * found.geometry.area_sectors
      process_image_fits =
          let held = there.held in
          let at = there.found_at in
          fits_area m config there.point found.records.items there.last v found.geometry
          held.recorded back.shows back.some back.module_is at.texts at.geometry fit

      -- why it couldn't
      fails_for : (fault : StoreFault)
          → ReopeningFails found.geometry (found.generation + 1) v (medium mid) (medium new) fault
          → MayNotReopen config promise Shut (recover.Worker (fault_of_store fault)) (medium old)
          (medium new) × (IsNoWorker (recover.Worker (fault_of_store fault)) → ⊥)
      fails_for store.TooBig (inl late) =
          let at = there.found_at in
          let same : found.generation ≡ there.point.generation = at.generation in
          let early : there.point.generation ≤ promise.events = there.early in
          ((refl, omega (arith, late, same, early)), λ denies. denies)
      fails_for store.TooBig (inr long) =
          let few = process_image_fits in absurd (omega (arith, few, long))
      fails_for (store.Disk fault) cause =
          let at = there.found_at in
          let all = just_synced.all_synced in
          let passes = just_synced.leaves.passes in
          let enough : total_sectors found.geometry ≤ (medium mid).sectors =
          subst (λ n. total_sectors found.geometry ≤ n) (sym passes.sectors)
          (subst (λ (g : Geometry). total_sectors g ≤ (medium old).sectors) (sym at.geometry)
          there.room) in (
            (
              refl,
              too_few config (medium old) (medium mid) (medium new) found.geometry.area_sectors
                  (ap (λ (g : Geometry). g.area_sectors) at.geometry) all.unsynced passes.room
                  passes.faults
                  (with_enough (medium mid).sectors (total_sectors found.geometry) enough cause),
            ),
            λ denies. denies,
          )
      fails_for store.Full cause = absurd cause
      fails_for store.TooLong cause = absurd cause
      fails_for store.Damaged cause = absurd cause
      fails_for (store.Layout why) cause = absurd cause
      fails_for store.Memory cause = absurd cause
      fails_for store.Failed cause = absurd cause

      written_vain : (why : RecoverFault) (inputs : Inputs)
          → (told : IsRetold m config promise inputs there.point found.records.items there.last)
          → HasNext m config promise found (medium old).sectors (medium mid) (medium new) there v
          → MayNotReopen config promise Shut why (medium old) (medium new)
          → CallsUpTo ((medium mid).sectors + 2) (medium mid) (medium new)
          → ReopensInVain m config promise inputs
          (all_taken (suc there.point.saved.lines)
          (drop there.point.saved.lines there.last.host.lines)) why (medium old) (medium new)
      written_vain why inputs told has may few =
          let made = told.made in
          let done = made.done in
          let lives = told.lives in
          record {
            events = done.events;
            are = done.are;
            kept = done.kept;
            carried = subst (λ (p : Promise).
                CarriesPromise m config promise p (medium old) (medium new)) done.promised_is
                (moments_hold medium takes m config promise found old mid new there v count outlet
                outlet' back has inputs told just_synced keeps);
            bounded = subst (λ (p : Promise).
                StaysWithin (p.events + 1) (medium old) (medium new)) done.promised_is
                (moments_within medium takes m config promise found old mid new there v count
                outlet outlet' back has inputs told just_synced bounds);
            counted = (let passes = just_synced.leaves.passes in
                omega (arith, just_synced.counted, few, passes.sectors));
            may = subst (λ (s : Stage).
                MayNotReopen config promise s.phase why (medium old) (medium new)) done.stage_is
                (subst (λ (phase : Phase).
                MayNotReopen config promise phase why (medium old) (medium new)) (sym lives.shut)
                may);
          }

      pub written_so : (why : RecoverFault)
          → OpensNone found.geometry found.generation v why (medium mid) (medium new)
          → FailsSo takes m config promise why (medium old) (medium new) outlet outlet'
      written_so why none =
          let has = has_next medium takes m config promise found (medium old).sectors mid new there
          v count outlet outlet' back none.writes in
          let may = fails_for none.fault none.fails in
          subst (λ (e : RecoverFault). FailsSo takes m config promise e (medium old) (medium new)
          outlet outlet') (sym none.is) (
            all_taken (suc there.point.saved.lines)
                (drop there.point.saved.lines there.last.host.lines),
            back.told,
            λ inputs foretold.
                let told = is_retold m config promise inputs there.point found.records.items
                there.last there.held foretold in
                ends_in_vain m config promise inputs
                (all_taken (suc there.point.saved.lines)
                (drop there.point.saved.lines there.last.host.lines)) (medium old) (medium new)
                (recover.Worker (fault_of_store none.fault)) may.1
                (written_vain (recover.Worker (fault_of_store none.fault)) inputs told has may.0
                none.writes.counted),
          )
