-- What a recovery answers, by what its disk shows and by what was promised.
use Rattle.std.proofs.Common.{◌≡◌, ◌⊎◌, inl, inr, ⊎_elim, ℕ, suc, ◌+◌, ◌<◌, ◌≤◌, List, []}
use Rattle.std.proofs.Common.{◌*◌, is_some}
use Rattle.std.proofs.Common.{◌++◌, length, drop, take, refl, sym, ap, ◌∙◌, subst, arith, false}
use Rattle.std.specs.Prelude.{Result, Ok, Err, IfOk}
use Rattle.std.proofs.lemmas.List.{append-nil}
use Rattle.wasm_syntax.specs.declared.module.Module.{Module}
use Rattle.wasi_abi.specs.rules.Configs.{Settings}
use Rattle.process_rules.specs.Processes.{ProcessState}
use Rattle.process_rules.specs.Runs.{Kept}
use Rattle.process.specs.rules.Values.{ProcessValue}
use Rattle.state_image.specs.rules.ProcessImage.{process_image}
use Rattle.state_image.specs.rules.Saving.{saved_of}
use Rattle.sector_disk.specs.declared.fault.DiskFault.{DiskFault}
use Rattle.sector_disk.specs.rules.DiskImage.{DiskImage}
use Rattle.sector_disk.specs.rules.Medium.{Medium, SyncsMedium, CallsUpTo}
use Rattle.sector_disk.proofs.CountLemmas.{counts_same, counts_then, unsynced_within}
use Rattle.sector_disk.proofs.Moments.{leaves_weaker, leaves_only, started, synced_only}
use Rattle.sector_disk.proofs.Moments.{synced_stays, stays_crashed, stays_on, stays_leaves_only}
use Rattle.disk_layout.specs.declared.fault.LayoutFault.TheVariants as layout
use Rattle.disk_layout.specs.rules.Places.{geometry_of, area_place, rounded_up, total_sectors}
use Rattle.disk_layout.specs.rules.Stored.{OnlyReads}
use Rattle.disk_layout.specs.declared.geometry.Geometry.{Geometry}
use Rattle.disk_layout.specs.rules.Journal.{Record}
use Rattle.snapshot.specs.declared.writing.Writing.TheVariants.{Changes}
use Rattle.snapshot.specs.rules.Calls.{AreStores, with_head}
use Rattle.record_replay.specs.declared.fault.ReplayFault.{ReplayFault}
use Rattle.record_replay.specs.declared.fault.ReplayFault.TheVariants as replay
use Rattle.record_replay.specs.rules.Calls.{Taking, all_taken}
use Rattle.record_replay.specs.rules.Records.{Recorded}
use Rattle.record_replay.specs.rules.Replays.{ReplaysUpTo, StopsReplay}
use Rattle.worker_store.specs.restart_theorem.Stands.{StandsFor, IsBlank}
use Rattle.worker_store.specs.restart_theorem.Lives.{Inputs}
use Rattle.worker_store.specs.restart_theorem.Courses.{Shut}
use Rattle.worker_store.specs.restart_theorem.Promises.{Promise}
use Rattle.worker_store.specs.restart_theorem.Holds.{HoldsPromise, IsUnopened, KeepsPromise}
use Rattle.worker_store.specs.restart_theorem.Holds.{IsBounded, KeepsBounds}
use Rattle.worker_store.specs.laws.Savepoints.{point_of}
use Rattle.worker_store.proofs.LawLemmas.Carrying.{blank_is_unopened}
use Rattle.worker_store.proofs.LawLemmas.Points.{is_at_its_savepoint}
use Rattle.worker_store.specs.declared.fault.StoreFault.{StoreFault}
use Rattle.worker_store.specs.declared.fault.StoreFault.TheVariants as store
use Rattle.worker_store.specs.rules.Calls.{ReopeningFails}
use Rattle.worker_store.specs.laws.Laws.{ProcessImagesFitAreas}
use Rattle.worker.specs.declared.fault.WorkFault.TheVariants.{Work, Disk, Store, Upgrade}
use Rattle.worker.specs.declared.found.Found.{Found}
use Rattle.worker.specs.declared.recover_fault.RecoverFault.{RecoverFault}
use Rattle.worker.specs.declared.recover_fault.RecoverFault.TheVariants as recover
use Rattle.worker.specs.rules.WorkFaults.{fault_of_store}
use Rattle.worker.specs.rules.CallCounts.{most_behind, most_opening}
use Rattle.worker.specs.rules.DurableValues.{DurableValue}
use Rattle.worker.specs.rules.Recoveries.{IsNoWorker, IsNoWorkerOr, SaysNothing, SaysNoWorker}
use Rattle.worker.specs.rules.Recoveries.{MarksDecide, IsJustSynced, RecoveryCarries, MayNotReopen}
use Rattle.worker.specs.rules.Recoveries.{ReopensInVain, FindsNone, EndsInVain, Revives}
use Rattle.worker.specs.rules.Recoveries.{RevivesInVain, RecoversFrom, TellsSome, OpeningCalls}
use Rattle.worker.specs.Findings.{FindsWorker, FindsOne, IsFoundAt, HasSearchCause}
use Rattle.worker.specs.Revivals.{RevivesFound, IsReplayed, StopsInVain, OpensNone}
use Rattle.worker.specs.Revivals.{OpensStore, ReplaysForNothing}
use Rattle.worker.proofs.RecoveryLemmas.Undiverged.{undiverged, tells_some, refuses_on}
use Rattle.worker.proofs.RecoveryLemmas.There.{IsThere, is_there, leaves_join}
use Rattle.worker.proofs.RecoveryLemmas.Lives.{IsBack, is_back, tells_as, fits_area, released_lines}
use Rattle.worker.proofs.RecoveryLemmas.Written.{is_retold}
use Rattle.worker.proofs.RecoveryLemmas.Opening.{reopens}
use Rattle.worker.proofs.RecoveryLemmas.InVain.{nothing_done, stopped_so, written_so, refuses_as}

-- ---- the disk is synced and read

-- a good sync, and then reads
pub is_just_synced : {T : Type 0} (old sync mid : Medium) (done : T)
    → SyncsMedium {T = T} (Ok done) old sync → OnlyReads sync mid
    → CallsUpTo (2 * sync.sectors) sync mid → IsJustSynced old mid
is_just_synced old sync mid done syncs reads few =
    let passes = syncs.passes in
    let calls = syncs.calls in
    record {
      all_synced = synced_stays sync mid reads.stays syncs.all_synced;
      stays = stays_on old sync mid passes.later syncs.stays reads.stays;
      leaves = leaves_join old sync mid old.crash_images
          (stays_leaves_only old sync syncs.stays syncs.passes)
          (leaves_weaker sync mid sync.crash_images old.crash_images reads.leaves
          (λ image crashed. stays_crashed old sync syncs.stays image crashed));
      counts = counts_then old.unsynced sync.unsynced old.unsynced old sync mid (omega arith)
          (unsynced_within old.unsynced old sync (omega arith) passes.later syncs.counts)
          passes.later syncs.counts reads.counts;
      calls = reads.calls ∙ calls.all;
      counted = omega (arith, syncs.counted, few, passes.sectors);
    }

pub reads_none : (mid : Medium) → OnlyReads mid mid
reads_none mid = record {
  stays = record {
    crash_pairs = λ shown image both. both;
    since = λ t shown image le both. both;
    unsynced = omega arith;
  };
  leaves = leaves_only mid mid mid.crash_images (started mid mid.crash_images)
      (λ image crashed. crashed);
  unsynced = refl;
  counts = counts_same mid mid.unsynced;
  calls = refl;
}

-- ---- the disk couldn't be synced

-- a sync fails only where the disk fails
pub sync_faulted : {T : Type 0} (old new : Medium) (fault : DiskFault)
    → SyncsMedium {T = T} (Err fault) old new → old.faults < new.faults
sync_faulted old new fault syncs =
    let cause = syncs.cause in
    ⊎_elim (λ named. ⊎_elim (λ out. absurd out) (λ full. absurd full) named) (λ more. more)
    (cause.fault refl)

module _ {D O : Type 0} (medium : D → Medium) (takes : Taking O) (old new : D) (outlet : O)
    {T : Type 0} (fault : DiskFault)
    (syncs : SyncsMedium {T = T} (Err fault) (medium old) (medium new)) (why : RecoverFault)
    (is : why ≡ recover.Worker (Disk fault)) where
  failed : (medium old).faults < (medium new).faults
  failed = sync_faulted (medium old) (medium new) fault syncs

  pub failed_sync_carries : RecoveryCarries takes (Err why) (medium old) (medium new) outlet outlet
  failed_sync_carries m config promise crashed is_crashed keeps bounds = (
    [],
    refl,
    λ inputs foretold.
        subst (λ (e : RecoverFault). EndsInVain m config promise inputs [] e (medium old)
        (medium new)) (sym is)
        (nothing_done m config promise inputs (recover.Worker (Disk fault)) (medium old)
        (medium new) (stays_leaves_only (medium old) (medium new) syncs.stays syncs.passes) keeps
        bounds (refl, inr failed) (omega (arith, syncs.counted))),
  )

-- ---- no worker was found

-- what an error keeps that says nothing of what is there
finds_nothing : (m : Module) (config : Settings) (promise : Promise) (inputs : Inputs)
    (old mid : Medium) (why : RecoverFault) → SaysNothing why
    → ((fault : DiskFault) → why ≡ recover.Worker (Disk fault) → old.faults < mid.faults)
    → (MayNotReopen config promise Shut why old mid
    → ReopensInVain m config promise inputs [] why old mid)
    → EndsInVain m config promise inputs [] why old mid
finds_nothing m config promise inputs old mid (recover.Worker (Disk fault)) says cause vain =
    vain (refl, inr (cause fault refl))
finds_nothing m config promise inputs old mid (recover.Worker (Work why)) says cause vain =
    absurd says
finds_nothing m config promise inputs old mid (recover.Worker (Store why)) says cause vain =
    absurd says
finds_nothing m config promise inputs old mid (recover.Worker (Upgrade why)) says cause vain =
    absurd says
finds_nothing m config promise inputs old mid (recover.Replay why) says cause vain = absurd says
finds_nothing m config promise inputs old mid (recover.Layout layout.NotAWorker) says cause vain =
    absurd says
finds_nothing m config promise inputs old mid other says cause vain = vain (refl, says)

-- what one keeps where a mark is missing
finds_vain : (m : Module) (config : Settings) (promise : Promise) (inputs : Inputs)
    (old mid : Medium) (why : RecoverFault) → IsNoWorkerOr why ⊎ SaysNothing why
    → ((fault : DiskFault) → why ≡ recover.Worker (Disk fault) → old.faults < mid.faults)
    → (IsNoWorker why → FindsNone promise [] old mid)
    → (MayNotReopen config promise Shut why old mid
    → ReopensInVain m config promise inputs [] why old mid)
    → EndsInVain m config promise inputs [] why old mid
finds_vain m config promise inputs old mid why (inr says) cause none vain =
    finds_nothing m config promise inputs old mid why says cause vain
finds_vain m config promise inputs old mid (recover.Layout layout.NotAWorker) (inl or) cause none
    vain = none tt
finds_vain m config promise inputs old mid (recover.Layout layout.Memory) (inl or) cause none
    vain = vain (refl, tt)
finds_vain m config promise inputs old mid (recover.Worker (Disk fault)) (inl or) cause none vain =
    vain (refl, inr (cause fault refl))
finds_vain m config promise inputs old mid other (inl or) cause none vain = absurd or

tells_none : {O : Type 0} (takes : Taking O) (released : ℕ) (p : ProcessState) (outlet : O)
    → TellsSome takes released p outlet outlet
tells_none takes released p outlet =
    record { told = []; others = drop released p.host.lines; are = refl; releases = refl }

-- it has told nothing
nothing_revived : {O : Type 0} (takes : Taking O) {disk : DiskImage} {m : Module}
    {config : Settings}
    {kept : List Kept} {n : ℕ} (stands : StandsFor disk m config kept n) (outlet : O)
    (why : RecoverFault) → SaysNothing why → RevivesInVain takes stands why outlet outlet
nothing_revived takes stands outlet (recover.Worker (Disk fault)) says =
    tells_none takes stands.saved.lines stands.last outlet
nothing_revived takes stands outlet (recover.Worker (Work why)) says = absurd says
nothing_revived takes stands outlet (recover.Worker (Store why)) says = absurd says
nothing_revived takes stands outlet (recover.Worker (Upgrade why)) says = absurd says
nothing_revived takes stands outlet (recover.Replay why) says = absurd says
nothing_revived takes stands outlet other says = (says, refl)

module _ {D O : Type 0} (medium : D → Medium) (takes : Taking O) (old mid : D) (outlet : O)
    (just_synced : IsJustSynced (medium old) (medium mid)) (why : RecoverFault) (wasm : List ℕ)
    (finds : (image : DiskImage) → (medium mid).shows image
    → FindsWorker (medium old).sectors wasm image (Err why))
    (marks : (image : DiskImage) → (medium mid).shows image
    → MarksDecide {T = Found} image (Err why)) where
  unfound_from : (image : DiskImage) → (medium mid).shows image
      → RecoversFrom takes (medium old).sectors image (Err why) outlet outlet
  unfound_from image shows =
      let decide = marks image shows in
      record {
        marks = record { only = decide.only; always = decide.always };
        revives = λ m config kept n stands room. nothing_revived takes stands outlet why
            (finds image shows m config (point_of stands) stands.records stands.last
            (is_at_its_savepoint image m config kept n stands) room);
      }

  pub unfound_carries : ((fault : DiskFault) → why ≡ recover.Worker (Disk fault)
      → (medium old).faults < (medium mid).faults)
      → RecoveryCarries takes (Err why) (medium old) (medium mid) outlet outlet
  unfound_carries cause m config promise crashed is_crashed keeps bounds = (
    [],
    refl,
    λ inputs foretold.
        finds_vain m config promise inputs (medium old) (medium mid) why or cause none
        (λ may. nothing_done m config promise inputs why (medium old) (medium mid)
        just_synced.leaves keeps bounds may (omega (arith, just_synced.counted))),
  )
    where
      shown_of : (image : DiskImage) → (medium mid).crash_images image → (medium mid).shows image
      shown_of image crashed = synced_only (medium mid) just_synced.all_synced image crashed

      before : (image : DiskImage) → (medium mid).crash_images image
          → (medium old).crash_images image
      before image crashed = stays_crashed (medium old) (medium mid) just_synced.stays image crashed

      or : IsNoWorkerOr why ⊎ SaysNothing why
      or = ⊎_elim
          (λ (unopened : IsUnopened promise crashed).
          let decide = marks crashed (shown_of crashed is_crashed) in inl
          (decide.always unopened.1)) (λ (holds : HoldsPromise m config promise promise crashed).
          let stands = holds.stands in
          let within = bounds crashed (before crashed is_crashed) m config
          (take holds.held promise.kept) holds.steps holds.stands in
          inr (finds crashed (shown_of crashed is_crashed) m config (point_of stands) stands.records
          stands.last
          (is_at_its_savepoint crashed m config (take holds.held promise.kept) holds.steps stands)
          within.1))
          (keeps crashed (before crashed is_crashed))

      none : IsNoWorker why → FindsNone promise [] (medium old) (medium mid)
      none denies = record {
        none_told = refl;
        unopened = λ image crashed.
            let decide = marks image (shown_of image crashed) in
            let blank : IsBlank image = decide.only denies in (
              blank_is_unopened m config promise image (keeps image (before image crashed)) blank,
              blank,
            );
        bounded = leaves_weaker (medium old) (medium mid) (medium old).crash_images
            (IsBounded promise.events (medium old).sectors) just_synced.leaves bounds;
        counted = omega (arith, just_synced.counted);
      }

-- ---- a worker was found

-- no error after the reads says that there is none
module _ {D O : Type 0} (takes : Taking O) (found : Found) (mid new : D) (outlet outlet' : O) where
  pub stopped_some : (why : RecoverFault) → StopsInVain takes found why mid new outlet outlet'
      → IsNoWorker why → ⊥
  stopped_some why stops denies = subst (λ (e : RecoverFault). IsNoWorker e) stops.is denies

writes_some : (geometry : Geometry) (g : ℕ) (v : ProcessValue) (mid new : Medium)
    (fault : StoreFault) → ReopeningFails geometry g v mid new fault
    → IsNoWorker (recover.Worker (fault_of_store fault)) → ⊥
writes_some geometry g v mid new fault fails denies = denies

pub unwritten_some : (geometry : Geometry) (generation : ℕ) (v : ProcessValue)
    (why : RecoverFault) (mid new : Medium) → OpensNone geometry generation v why mid new
    → IsNoWorker why → ⊥
unwritten_some geometry generation v why mid new none denies =
    writes_some geometry (generation + 1) v mid new none.fault none.fails
    (subst (λ (e : RecoverFault). IsNoWorker e) none.is denies)

-- the calls of a store that is opened
opening_calls : (found : Found) (w : DurableValue) (mid new : Medium)
    → OpensStore found.geometry found.generation w.process w.store mid new
    → OpeningCalls w mid new
opening_calls found w mid new opens =
    let calls = opens.calls in
    let made = calls.2 in (
      calls.0,
      subst (λ g. AreStores Changes (area_place w.store.geometry g)
          (rounded_up (length (process_image (saved_of w.process)))) calls.0) (sym opens.numbered)
          (subst (λ (z : Geometry). AreStores Changes (area_place z (found.generation + 1))
          (rounded_up (length (process_image (saved_of w.process)))) calls.0)
          (sym opens.placed) calls.1),
      subst (λ g. new.calls ≡ with_head g calls.0 ++ mid.calls) (sym opens.numbered) made.all,
    )

-- so many calls at most, from before the sync on
few_calls : (found : Found) (w : DurableValue) (old mid new : Medium)
    → OpensStore found.geometry found.generation w.process w.store mid new
    → CallsUpTo (1 + old.sectors + most_behind found.geometry) old mid
    → CallsUpTo (most_opening w.store.geometry old.sectors) old new
few_calls found w old mid new opens few =
    let writes = opens.writes in
    subst (λ (g : Geometry). CallsUpTo (most_opening g old.sectors) old new) (sym opens.placed)
    (omega (arith, few, writes.few))

-- what is called, where a worker is opened
found_calls : {D O : Type 0} (medium : D → Medium) (takes : Taking O) (found : Found)
    (old mid new : D) (outlet outlet' : O) (result : Result DurableValue RecoverFault)
    → RevivesFound medium takes found result mid new outlet outlet'
    → CallsUpTo (1 + (medium old).sectors + most_behind found.geometry) (medium old) (medium mid)
    → IfOk result (λ w. OpeningCalls w (medium mid) (medium new)
    × CallsUpTo (most_opening w.store.geometry (medium old).sectors) (medium old) (medium new))
found_calls medium takes found old mid new outlet outlet' (Ok w) revives few = (
  opening_calls found w (medium mid) (medium new) revives.1,
  few_calls found w (medium old) (medium mid) (medium new) revives.1 few,
)
found_calls medium takes found old mid new outlet outlet' (Err why) revives few = tt

-- what an image stands for, by which it was found
module _ {O : Type 0} (takes : Taking O) (found : Found) (wasm : List ℕ) (disk : DiskImage)
    (m : Module) (config : Settings) (kept : List Kept) (n : ℕ)
    (stands : StandsFor disk m config kept n)
    (at : IsFoundAt wasm (point_of stands) stands.records found) (outlet outlet' : O) where
  saved_few : stands.saved.lines ≤ length stands.process.host.lines
  saved_few = (let shown = stands.shown in let lines : stands.saved.lines
      ≡ length stands.process.host.lines = shown.lines in omega (arith, lines))

  back_of : (v : ProcessValue) (count : ℕ) → IsReplayed takes found v count outlet outlet'
      → IsBack takes (point_of stands) stands.last v count outlet outlet'
  back_of v count replayed =
      is_back takes m config wasm (point_of stands) stands.records found at stands.last
      stands.recorded v count outlet outlet' replayed

  recorded_found : Recorded stands.reached.guest stands.process found.records.items stands.last
  recorded_found = subst (λ (l : List Record). Recorded stands.reached.guest stands.process l
      stands.last) (sym at.records_are) stands.recorded

  pub revived : (w : DurableValue) (mid new : Medium)
      → IsReplayed takes found w.process w.replayed outlet outlet'
      → OpensStore found.geometry found.generation w.process w.store mid new
      → w.has_failed ≡ false → w.is_abreast ≡ is_some w.process.ended
      → Revives takes stands (Ok w) outlet outlet'
  revived w mid new replayed opens works abreast =
      let back = back_of w.process w.replayed replayed in
      let counted : stands.last.steps ≡ stands.process.steps + w.replayed = back.counted in
      let step : n ≡ stands.last.steps = stands.at_step in (
        record {
          shows = back.shows;
          module_is = back.module_is;
          generation = opens.numbered ∙ ap (λ g. g + 1) at.generation;
          counted = omega (arith, counted, step);
          unfailed = works;
          abreast = (let shows = back.shows in abreast ∙ ap is_some shows.ended);
        },
        back.told,
      )

  stop_revives : (fault : ReplayFault)
      → (come : ReplaysUpTo stands.reached.guest stands.process found.records.items)
      → StopsReplay takes found.process.host.released come fault outlet outlet'
      → RevivesInVain takes stands (recover.Replay fault) outlet outlet'
  stop_revives replay.Diverged come stops =
      absurd (undiverged stands.reached.guest stands.process stands.last found.records.items
      recorded_found come stands.numbers stops.1)
  stop_revives replay.Memory come stops =
      tells_some stands.reached.guest stands.process stands.last found.records.items
      recorded_found come takes stands.saved.lines saved_few outlet outlet'
      (tells_as takes found.process.host.released stands.saved.lines come.process outlet outlet'
      (released_lines takes m config wasm (point_of stands) stands.records found at) stops.0)
  stop_revives replay.Outlet come stops =
      refuses_on stands.reached.guest stands.process stands.last found.records.items
      recorded_found come takes stands.saved.lines saved_few outlet outlet'
      (refuses_as takes found.process.host.released stands.saved.lines come.process outlet
      outlet' (released_lines takes m config wasm (point_of stands) stands.records found at)
      stops)

  pub stopped_revives : {D : Type 0} (mid new : D) (why : RecoverFault)
      → StopsInVain takes found why mid new outlet outlet'
      → RevivesInVain takes stands why outlet outlet'
  stopped_revives mid new why stops =
      let come = stops.stops stands.reached.guest stands.process at.shows in
      subst (λ (e : RecoverFault). RevivesInVain takes stands e outlet outlet') (sym stops.is)
      (stop_revives stops.fault come.0 come.1)

  write_revives : (fit : ProcessImagesFitAreas) (v : ProcessValue) (count : ℕ) (mid new : Medium)
      → IsReplayed takes found v count outlet outlet' → (fault : StoreFault)
      → ReopeningFails found.geometry (found.generation + 1) v mid new fault
      → RevivesInVain takes stands (recover.Worker (fault_of_store fault)) outlet outlet'
  write_revives fit v count mid new replayed store.TooBig (inl late) =
      let back = back_of v count replayed in
      let same : found.generation ≡ stands.generation = at.generation in
      (omega (arith, late, same), back.told)
  write_revives fit v count mid new replayed store.TooBig (inr long) =
      let back = back_of v count replayed in
      let few = fits_area m config (point_of stands) stands.records stands.last v found.geometry
      stands.recorded back.shows back.some back.module_is at.texts at.geometry fit in
      absurd (omega (arith, few, long))
  write_revives fit v count mid new replayed (store.Disk fault) cause =
      let back = back_of v count replayed in
      record {
        told = drop stands.saved.lines stands.last.host.lines;
        others = [];
        are = sym (append-nil (drop stands.saved.lines stands.last.host.lines));
        releases = back.told;
      }
  write_revives fit v count mid new replayed store.Full cause = absurd cause
  write_revives fit v count mid new replayed store.TooLong cause = absurd cause
  write_revives fit v count mid new replayed store.Damaged cause = absurd cause
  write_revives fit v count mid new replayed (store.Layout why) cause = absurd cause
  write_revives fit v count mid new replayed store.Memory cause = absurd cause
  write_revives fit v count mid new replayed store.Failed cause = absurd cause

  pub unwritten_revives : (fit : ProcessImagesFitAreas) (why : RecoverFault) (mid new : Medium)
      → ReplaysForNothing takes found why mid new outlet outlet'
      → RevivesInVain takes stands why outlet outlet'
  unwritten_revives fit why mid new for =
      let none = for.none in
      subst (λ (e : RecoverFault). RevivesInVain takes stands e outlet outlet') (sym none.is)
      (write_revives fit for.process for.count mid new for.replayed none.fault none.fails)

module _ {D O : Type 0} (medium : D → Medium) (takes : Taking O) (old mid new : D)
    (outlet outlet' : O) (fit : ProcessImagesFitAreas) (just_synced : IsJustSynced
    (medium old) (medium mid)) (found : Found) (wasm : List ℕ)
    (finds : (image : DiskImage) → (medium mid).shows image
    → FindsWorker (medium old).sectors wasm image (Ok found))
    (marks : (image : DiskImage) → (medium mid).shows image
    → MarksDecide {T = Found} image (Ok found)) where
  found_for : (image : DiskImage) → (medium mid).shows image → (m : Module) (config : Settings)
      (kept : List Kept) (n : ℕ) (stands : StandsFor image m config kept n)
      → total_sectors (geometry_of config (length stands.wasm)) ≤ (medium old).sectors
      → IsFoundAt wasm (point_of stands) stands.records found
  found_for image shows m config kept n stands room =
      finds image shows m config (point_of stands) stands.records stands.last
      (is_at_its_savepoint image m config kept n stands) room

  -- a result of it says that there is a worker
  found_some : (result : Result DurableValue RecoverFault)
      → RevivesFound medium takes found result mid new outlet outlet' → SaysNoWorker result → ⊥
  found_some (Ok w) revives denies = denies
  found_some (Err why) (inl stops) denies =
      stopped_some takes found mid new outlet outlet' why stops denies
  found_some (Err why) (inr for) denies =
      unwritten_some found.geometry found.generation for.process why (medium mid) (medium new)
      for.none denies

  found_revives : (result : Result DurableValue RecoverFault)
      → RevivesFound medium takes found result mid new outlet outlet'
      → (image : DiskImage) → (medium mid).shows image → (m : Module) (config : Settings)
      (kept : List Kept) (n : ℕ) (stands : StandsFor image m config kept n)
      → total_sectors (geometry_of config (length stands.wasm)) ≤ (medium old).sectors
      → Revives takes stands result outlet outlet'
  found_revives (Ok w) revives image shows m config kept n stands room =
      revived takes found wasm image m config kept n stands
      (found_for image shows m config kept n stands room) outlet outlet' w (medium mid)
      (medium new) revives.0 revives.1 revives.2 revives.3
  found_revives (Err why) (inl stops) image shows m config kept n stands room =
      stopped_revives takes found wasm image m config kept n stands
      (found_for image shows m config kept n stands room) outlet outlet' mid new why stops
  found_revives (Err why) (inr for) image shows m config kept n stands room =
      unwritten_revives takes found wasm image m config kept n stands
      (found_for image shows m config kept n stands room) outlet outlet' fit why (medium mid)
      (medium new) for

  found_from : (result : Result DurableValue RecoverFault)
      → RevivesFound medium takes found result mid new outlet outlet'
      → (image : DiskImage) → (medium mid).shows image
      → RecoversFrom takes (medium old).sectors image result outlet outlet'
  found_from result revives image shows =
      let decide = marks image shows in
      record {
        marks = record {
          only = λ denies. absurd (found_some result revives denies);
          always = λ blank. absurd (decide.always blank);
        };
        revives = found_revives result revives image shows;
      }

  -- where an image was left
  there_for : (m : Module) (config : Settings) (promise : Promise) (first : DiskImage)
      → (medium mid).crash_images first → KeepsPromise m config promise (medium old)
      → KeepsBounds promise.events (medium old)
      → IsThere m config promise found (medium old).sectors (medium mid)
  there_for m config promise first crashed keeps bounds =
      is_there m config promise (medium old) (medium mid) just_synced keeps found wasm finds marks
      bounds first crashed

  pub found_carries : (result : Result DurableValue RecoverFault)
      → RevivesFound medium takes found result mid new outlet outlet'
      → RecoveryCarries takes result (medium old) (medium new) outlet outlet'
  found_carries (Ok w) revives m config promise crashed is_crashed keeps bounds =
      let opens = revives.1 in
      let writes = opens.writes in
      let first = writes.some crashed is_crashed in
      let there = there_for m config promise first.0 first.1 keeps bounds in
      let held = there.held in
      let back = is_back takes m config there.wasm there.point found.records.items found
      there.found_at there.last held.recorded w.process w.replayed outlet outlet' revives.0 in (
        all_taken (suc there.point.saved.lines)
            (drop there.point.saved.lines there.last.host.lines),
        back.told,
        λ inputs foretold.
            reopens medium takes m config promise found old mid new there w outlet outlet' back
            opens revives.2 revives.3 inputs
            (is_retold m config promise inputs there.point found.records.items there.last held
            foretold) just_synced keeps bounds,
      )
  found_carries (Err why) (inl stops) m config promise crashed is_crashed keeps bounds =
      let there = there_for m config promise crashed
      (subst (λ (d : D). (medium d).crash_images crashed) stops.same is_crashed) keeps bounds in
      stopped_so medium takes m config promise found old mid just_synced keeps bounds there outlet
      outlet' why new stops
  found_carries (Err why) (inr for) m config promise crashed is_crashed keeps bounds =
      let none = for.none in
      let writes = none.writes in
      let first = writes.some crashed is_crashed in
      let there = there_for m config promise first.0 first.1 keeps bounds in
      written_so medium takes m config promise found old mid just_synced keeps bounds there outlet
      outlet' new for.process for.count for.replayed fit why for.none

-- ---- a good sync, and then reads

module _ {D O T : Type 0} (medium : D → Medium) (takes : Taking O) (old sync mid : D) (done : T)
    (syncs : SyncsMedium {T = T} (Ok done) (medium old) (medium sync))
    (reads : OnlyReads (medium sync) (medium mid))
    (few : CallsUpTo (2 * (medium sync).sectors) (medium sync) (medium mid)) (outlet : O) where
  just_synced : IsJustSynced (medium old) (medium mid)
  just_synced = is_just_synced (medium old) (medium sync) (medium mid) done syncs reads few

  finds_of : (result : Result Found RecoverFault)
      → (one : FindsOne (medium sync).sectors (medium mid) result) → (image : DiskImage)
      → (medium mid).shows image → FindsWorker (medium old).sectors one.0 image result
  finds_of result one =
      let passes = syncs.passes in
      subst (λ n. (image : DiskImage) → (medium mid).shows image → FindsWorker n one.0 image result)
      passes.sectors one.1

  module _ (why : RecoverFault)
      (one : FindsOne (medium sync).sectors (medium mid) (Err why))
      (marks : (image : DiskImage) → (medium mid).shows image
      → MarksDecide {T = Found} image (Err why)) where
    pub not_found_from : (image : DiskImage) → (medium mid).shows image
        → RecoversFrom takes (medium old).sectors image (Err why) outlet outlet
    not_found_from = unfound_from medium takes old mid outlet just_synced why one.0
        (finds_of (Err why) one) marks

    pub not_found_carries : HasSearchCause (medium sync) (medium mid) why
        → RecoveryCarries takes (Err why) (medium old) (medium mid) outlet outlet
    not_found_carries cause = unfound_carries medium takes old mid outlet just_synced why one.0
        (finds_of (Err why) one) marks
        (λ fault is. since (medium old).faults (medium sync).faults (medium mid).faults earlier
        (subst (λ (e : RecoverFault). HasSearchCause (medium sync) (medium mid) e) is cause))
      where
        earlier : (medium old).faults ≤ (medium sync).faults
        earlier = (let passes = syncs.passes in passes.faults)

        since : (a b c : ℕ) → a ≤ b → b < c → a < c
        since a b c x y = omega (arith, x, y)

  module _ (new : D) (outlet' : O) (fit : ProcessImagesFitAreas) (found : Found)
      (one : FindsOne (medium sync).sectors (medium mid) (Ok found))
      (marks : (image : DiskImage) → (medium mid).shows image
      → MarksDecide {T = Found} image (Ok found))
      (calls : CallsUpTo ((medium sync).sectors + most_behind found.geometry) (medium sync)
      (medium mid)) (result : Result DurableValue RecoverFault)
      (revives : RevivesFound medium takes found result mid new outlet outlet') where
    from_first : CallsUpTo (1 + (medium old).sectors + most_behind found.geometry) (medium old)
        (medium mid)
    from_first =
        let passes = syncs.passes in omega (arith, syncs.counted, calls, passes.sectors)

    pub is_found_from : (image : DiskImage) → (medium mid).shows image
        → RecoversFrom takes (medium old).sectors image result outlet outlet'
    is_found_from = found_from medium takes old mid new outlet outlet' fit just_synced found one.0
        (finds_of (Ok found) one) marks result revives

    pub is_found_some : SaysNoWorker result → ⊥
    is_found_some = found_some medium takes old mid new outlet outlet' fit just_synced found one.0
        (finds_of (Ok found) one) marks result revives

    pub is_found_calls : IfOk result (λ w. OpeningCalls w (medium mid) (medium new)
        × CallsUpTo (most_opening w.store.geometry (medium old).sectors) (medium old)
        (medium new))
    is_found_calls =
        found_calls medium takes found old mid new outlet outlet' result revives from_first

    pub is_found_carries : RecoveryCarries takes result (medium old) (medium new) outlet outlet'
    is_found_carries = found_carries medium takes old mid new outlet outlet' fit just_synced found
        one.0 (finds_of (Ok found) one) marks result revives
