-- What a recovery and a look at a disk answer, whatever is there.
use Rattle.std.proofs.Common.{◌≡◌, inl, inr, ℕ, ◌+◌, List, refl, sym, ap, ◌∙◌, subst}
use Rattle.std.proofs.Common.{◌*◌, ◌<◌, length, false, is_some}
use Rattle.std.specs.Prelude.{Result, Ok, Err, IfErr}
use Rattle.wasi_abi.specs.declared.version.Version.{Version}
use Rattle.wasi_calls_rules.specs.WasiStates.{WasiState}
use Rattle.process_rules.specs.Processes.{ProcessState, Guest}
use Rattle.process.specs.rules.Values.{ProcessValue, ShowsProcess}
use Rattle.state_image.specs.rules.ProcessImage.{process_image}
use Rattle.state_image.specs.rules.Saving.{saved_of}
use Rattle.sector_disk.specs.declared.fault.DiskFault.{DiskFault}
use Rattle.sector_disk.specs.rules.DiskImage.{DiskImage}
use Rattle.sector_disk.specs.rules.Medium.{CallsUpTo, Medium, SyncsMedium}
use Rattle.sector_disk.specs.declared.sector.TheConstants.{SECTOR_SIZE}
use Rattle.disk_layout.specs.declared.geometry.Geometry.{Geometry}
use Rattle.worker_store.specs.rules.AnyDisk.{NamesProcessImage}
use Rattle.disk_layout.specs.rules.Stored.{OnlyReads}
use Rattle.record_replay.specs.declared.fault.ReplayFault.{ReplayFault}
use Rattle.record_replay.specs.rules.Calls.{Taking}
use Rattle.record_replay.specs.rules.Replays.{StopsReplay, TellsFrom}
use Rattle.worker_store.specs.declared.fault.StoreFault.{StoreFault}
use Rattle.worker_store.specs.declared.fault.StoreFault.TheVariants as store
use Rattle.worker_store.specs.rules.Calls.{ReopeningFails}
use Rattle.worker_store.specs.laws.Laws.{ProcessImagesFitAreas}
use Rattle.worker.specs.declared.fault.WorkFault.TheVariants.{Disk}
use Rattle.worker.specs.declared.found.Found.{Found}
use Rattle.worker.specs.declared.recover_fault.RecoverFault.{RecoverFault}
use Rattle.worker.specs.declared.recover_fault.RecoverFault.TheVariants as recover
use Rattle.worker.specs.rules.WorkFaults.{fault_of_store}
use Rattle.worker.specs.rules.DurableValues.{DurableValue}
use Rattle.worker.specs.rules.CallCounts.{most_behind}
use Rattle.worker.specs.rules.Recoveries.{IsJustSynced, MarksDecide}
use Rattle.worker.specs.rules.ShownDisks.{HoldsWorker, RevivesHeld, EndsHeld, FailsHeld}
use Rattle.worker.specs.rules.ShownDisks.{AnswersDisk, LeavesRefused, Recovers, SurveysDisk}
use Rattle.worker.specs.rules.ShownDisks.{IsOfSaving, IsRefusal}
use Rattle.worker.specs.Findings.{FindsOne, numbers_of_found}
use Rattle.worker.specs.FoundDisks.{IsFoundIn, FindsIn}
use Rattle.worker.specs.Revivals.{RevivesFound, IsReplayed, StopsInVain}
use Rattle.worker.specs.Revivals.{OpensStore, ReplaysForNothing}
use Rattle.worker.proofs.RecoveryLemmas.There.{released_is}
use Rattle.worker.proofs.RecoveryLemmas.Results.{is_just_synced, reads_none, sync_faulted}
use Rattle.worker.proofs.RecoveryLemmas.Results.{not_found_from, is_found_from, is_found_some}
use Rattle.worker.proofs.RecoveryLemmas.Results.{is_found_calls}

-- ---- the worker that the disk holds

-- a process has the version of the one that it shows
pub shown_version : (v : ProcessValue) (guest : Guest) (p : ProcessState) → ShowsProcess v guest p
    → v.host.host.version ≡ p.host.version
shown_version v guest p shows =
    let host = shows.host in sym (ap (λ (h : WasiState). h.version) host.is)

module _ (sectors : ℕ) (disk : DiskImage) (found : Found) (at : IsFoundIn sectors disk found) where
  abbrev pub held_in : HoldsWorker sectors disk
  held_in = record {
    holds = at.holds;
    generation = found.generation;
    saved = saved_of found.process;
    well_typed = at.process.restored.well_typed;
    newest = subst (λ (b : List ℕ). NamesProcessImage at.holds.contents.geometry disk
        found.generation (saved_of found.process).version b) at.process.restored.is
        at.process.newest;
    none_later = at.none_later;
    records = found.records.items;
    in_journal = at.in_journal;
  }

  -- the process that was found is the saved one
  pub shows_saved : ShowsProcess found.process held_in.well_typed.guest held_in.well_typed.process
  shows_saved =
      let restored = at.process.restored in
      let typed = restored.well_typed in
      restored.shows typed.guest typed.process (record {
        start = typed.start;
        begins = typed.begins;
        functions = typed.functions;
        function_types = typed.function_types;
        shown = typed.shown;
        configured = typed.configured;
      })

  released : found.process.host.released ≡ held_in.saved.lines
  released =
      let restored = at.process.restored in
      released_is found.process (saved_of found.process) restored.none_waits refl

  pub surveyed : SurveysDisk sectors disk (Ok (numbers_of_found found))
  surveyed = (
    held_in,
    ap (λ (v : Version). record (numbers_of_found found) { version = v })
        (shown_version found.process held_in.well_typed.guest held_in.well_typed.process
        shows_saved),
  )

  module _ {O : Type 0} (takes : Taking O) (outlet outlet' : O) where
    -- it has come to its last process
    ends_held : (v : ProcessValue) (count : ℕ) → IsReplayed takes found v count outlet outlet'
        → EndsHeld takes held_in v outlet outlet'
    ends_held v count replayed =
        let all = replayed.replays in
        let led = all.shown held_in.well_typed.guest held_in.well_typed.process shows_saved in
        record {
          last = led.process;
          recorded = led.recorded;
          shows = led.shows;
          told = subst (λ n. TellsFrom takes n led.process outlet outlet') released led.told;
        }

    pub revives_held : (w : DurableValue) (mid new : Medium)
        → IsReplayed takes found w.process w.replayed outlet outlet'
        → OpensStore found.geometry found.generation w.process w.store mid new
        → w.has_failed ≡ false → w.is_abreast ≡ is_some w.process.ended
        → RevivesHeld takes held_in w outlet outlet'
    revives_held w mid new replayed opens works abreast =
        let ends = ends_held w.process w.replayed replayed in
        let restored = at.process.restored in
        record {
          last = ends.last;
          recorded = ends.recorded;
          shows = ends.shows;
          module_is = replayed.module_same ∙ restored.guest;
          generation = opens.numbered;
          counted = replayed.counted;
          unfailed = works;
          abreast = (let shows = ends.shows in abreast ∙ ap is_some shows.ended);
          told = ends.told;
        }

    -- it has stopped on the way
    pub fails_on_way : {D : Type 0} (mid new : D) (why : RecoverFault)
        → StopsInVain takes found why mid new outlet outlet'
        → FailsHeld takes held_in why outlet outlet'
    fails_on_way mid new why stops =
        let come = stops.stops held_in.well_typed.guest held_in.well_typed.process shows_saved in
        let first = come.0 in
        subst (λ (e : RecoverFault). FailsHeld takes held_in e outlet outlet') (sym stops.is) (
          first,
          subst (λ n. StopsReplay takes n first stops.fault outlet outlet') released come.1,
        )

    -- the next generation couldn't be written
    unsaved : (v : ProcessValue) (mid new : Medium) → EndsHeld takes held_in v outlet outlet'
        → (fault : StoreFault)
        → ReopeningFails found.geometry (found.generation + 1) v mid new fault
        → FailsHeld takes held_in (recover.Worker (fault_of_store fault)) outlet outlet'
    unsaved v mid new ends store.TooBig (inl late) = (v, ends, inl late)
    unsaved v mid new ends store.TooBig (inr long) = (
      v,
      ends,
      inr (subst (λ (p : Geometry). SECTOR_SIZE * p.area_sectors < length
          (process_image (saved_of v)))
          at.process.placed long),
    )
    unsaved v mid new ends (store.Disk fault) fails = (v, ends)
    unsaved v mid new ends store.Full fails = absurd fails
    unsaved v mid new ends store.TooLong fails = absurd fails
    unsaved v mid new ends store.Damaged fails = absurd fails
    unsaved v mid new ends (store.Layout why) fails = absurd fails
    unsaved v mid new ends store.Memory fails = absurd fails
    unsaved v mid new ends store.Failed fails = absurd fails

    pub fails_at_end : (why : RecoverFault) (mid new : Medium)
        → ReplaysForNothing takes found why mid new outlet outlet'
        → FailsHeld takes held_in why outlet outlet'
    fails_at_end why mid new for =
        let none = for.none in
        subst (λ (e : RecoverFault). FailsHeld takes held_in e outlet outlet') (sym none.is)
        (unsaved for.process mid new (ends_held for.process for.count for.replayed) none.fault
        none.fails)

-- ---- what is left as it is

-- a replay that stops has written nothing, and is no refusal of what is on the disk
no_refusal : (fault : ReplayFault) → IsRefusal (recover.Replay fault) → ⊥
no_refusal fault is = is

-- nor is a generation that can't be written
no_refusal_of : (geometry : Geometry) (g : ℕ) (v : ProcessValue) (mid new : Medium)
    (fault : StoreFault) → ReopeningFails geometry g v mid new fault
    → IsRefusal (recover.Worker (fault_of_store fault)) → ⊥
no_refusal_of geometry g v mid new fault fails is = is

of_saving : (geometry : Geometry) (g : ℕ) (v : ProcessValue) (mid new : Medium)
    (fault : StoreFault) → ReopeningFails geometry g v mid new fault
    → IsOfSaving (recover.Worker (fault_of_store fault))
of_saving geometry g v mid new store.TooBig fails = tt
of_saving geometry g v mid new (store.Disk fault) fails = tt
of_saving geometry g v mid new store.Full fails = absurd fails
of_saving geometry g v mid new store.TooLong fails = absurd fails
of_saving geometry g v mid new store.Damaged fails = absurd fails
of_saving geometry g v mid new (store.Layout why) fails = absurd fails
of_saving geometry g v mid new store.Memory fails = absurd fails
of_saving geometry g v mid new store.Failed fails = absurd fails

module _ {D O : Type 0} (medium : D → Medium) (takes : Taking O) (found : Found) (mid new : D)
    (outlet outlet' : O) where
  faults_on_way : (why : RecoverFault) → StopsInVain takes found why mid new outlet outlet'
      → LeavesRefused why (medium mid) (medium new) outlet outlet'
  faults_on_way why stops = record {
    untold = λ refusal.
        absurd (no_refusal stops.fault
        (subst (λ (e : RecoverFault). IsRefusal e) stops.is refusal));
    unwritten = λ other.
        subst (λ (d : D). OnlyReads (medium mid) (medium d)) (sym stops.same)
        (reads_none (medium mid));
  }

  faults_at_end : (why : RecoverFault)
      → ReplaysForNothing takes found why (medium mid) (medium new) outlet outlet'
      → LeavesRefused why (medium mid) (medium new) outlet outlet'
  faults_at_end why for =
      let none = for.none in
      record {
        untold = λ refusal.
            absurd (no_refusal_of found.geometry (found.generation + 1) for.process (medium mid)
            (medium new) none.fault none.fails
            (subst (λ (e : RecoverFault). IsRefusal e) none.is refusal));
        unwritten = λ other.
            absurd (other (subst (λ (e : RecoverFault). IsOfSaving e) (sym none.is)
            (of_saving found.geometry (found.generation + 1) for.process (medium mid)
            (medium new) none.fault none.fails)));
      }

  -- whatever comes of what was found
  pub faults_so : (result : Result DurableValue RecoverFault)
      → RevivesFound medium takes found result mid new outlet outlet'
      → IfErr result (λ why. LeavesRefused why (medium mid) (medium new) outlet outlet')
  faults_so (Ok w) revives = tt
  faults_so (Err why) (inl stops) = faults_on_way why stops
  faults_so (Err why) (inr for) = faults_at_end why for

  pub answers_so : (sectors : ℕ) (disk : DiskImage) (at : IsFoundIn sectors disk found)
      (result : Result DurableValue RecoverFault)
      → RevivesFound medium takes found result mid new outlet outlet'
      → AnswersDisk takes sectors disk result outlet outlet'
  answers_so sectors disk at (Ok w) revives = (
    held_in sectors disk found at,
    revives_held sectors disk found at takes outlet outlet' w (medium mid) (medium new)
        revives.0 revives.1 revives.2 revives.3,
  )
  answers_so sectors disk at (Err why) (inl stops) = inr (
    held_in sectors disk found at,
    fails_on_way sectors disk found at takes outlet outlet' mid new why stops,
  )
  answers_so sectors disk at (Err why) (inr for) = inr (
    held_in sectors disk found at,
    fails_at_end sectors disk found at takes outlet outlet' why (medium mid) (medium new) for,
  )

-- ---- the disk couldn't be synced

module _ {D O : Type 0} (medium : D → Medium) (takes : Taking O) (old new : D) (outlet : O)
    {T : Type 0} (fault : DiskFault)
    (syncs : SyncsMedium {T = T} (Err fault) (medium old) (medium new)) (why : RecoverFault)
    (is : why ≡ recover.Worker (Disk fault)) where
  pub failed_sync_recovers : Recovers medium takes (Err why) old new outlet outlet
  failed_sync_recovers =
      let calls = syncs.calls in
      inl (record {
        fault = fault;
        is = ap (λ e. Err e) is;
        stays = syncs.stays;
        calls = calls.begun;
        faulted = sync_faulted (medium old) (medium new) fault syncs;
        none_told = refl;
      })

-- ---- a good sync, and then reads

module _ {T : Type 0} (old sync mid : Medium) (done : T)
    (syncs : SyncsMedium {T = T} (Ok done) old sync) where
  pub found_there : (result : Result Found RecoverFault)
      → ((image : DiskImage) → mid.shows image → FindsIn sync.sectors image result)
      → (image : DiskImage) → mid.shows image → FindsIn old.sectors image result
  found_there result finds =
      let passes = syncs.passes in
      subst (λ n. (image : DiskImage) → mid.shows image → FindsIn n image result) passes.sectors
      finds

module _ {D O T : Type 0} (medium : D → Medium) (takes : Taking O) (old sync mid : D) (done : T)
    (syncs : SyncsMedium {T = T} (Ok done) (medium old) (medium sync))
    (reads : OnlyReads (medium sync) (medium mid))
    (few : CallsUpTo (2 * (medium sync).sectors) (medium sync) (medium mid)) (outlet : O) where
  just_synced : IsJustSynced (medium old) (medium mid)
  just_synced = is_just_synced (medium old) (medium sync) (medium mid) done syncs reads few

  -- no worker was found
  pub not_found_recovers : (why : RecoverFault)
      → FindsOne (medium sync).sectors (medium mid) (Err why)
      → ((image : DiskImage) → (medium mid).shows image
      → MarksDecide {T = Found} image (Err why))
      → ((image : DiskImage) → (medium mid).shows image
      → FindsIn (medium sync).sectors image (Err why))
      → Recovers medium takes (Err why) old mid outlet outlet
  not_found_recovers why one marks finds = inr (
    mid,
    just_synced,
    λ image shown. (
      not_found_from medium takes old sync mid done syncs reads few outlet why one marks image
          shown,
      inl (
        found_there (medium old) (medium sync) (medium mid) done syncs (Err why) finds image
            shown,
        refl,
      ),
    ),
    λ denies. (reads_none (medium mid), refl),
    tt,
    record { untold = λ refusal. refl; unwritten = λ other. reads_none (medium mid) },
  )

  -- one was
  pub is_found_recovers : (new : D) (outlet' : O) (fit : ProcessImagesFitAreas) (found : Found)
      → FindsOne (medium sync).sectors (medium mid) (Ok found)
      → ((image : DiskImage) → (medium mid).shows image
      → MarksDecide {T = Found} image (Ok found))
      → CallsUpTo ((medium sync).sectors + most_behind found.geometry) (medium sync) (medium mid)
      → ((image : DiskImage) → (medium mid).shows image
      → FindsIn (medium sync).sectors image (Ok found))
      → (result : Result DurableValue RecoverFault)
      → RevivesFound medium takes found result mid new outlet outlet'
      → Recovers medium takes result old new outlet outlet'
  is_found_recovers new outlet' fit found one marks calls finds result revives = inr (
    mid,
    just_synced,
    λ image shown. (
      is_found_from medium takes old sync mid done syncs reads few outlet new outlet' fit found
          one marks calls result revives image shown,
      answers_so medium takes found mid new outlet outlet' (medium old).sectors image
          (found_there (medium old) (medium sync) (medium mid) done syncs (Ok found) finds image
          shown) result revives,
    ),
    λ denies.
        absurd (is_found_some medium takes old sync mid done syncs reads few outlet new outlet'
        fit found one marks calls result revives denies),
    is_found_calls medium takes old sync mid done syncs reads few outlet new outlet' fit found one
        marks calls result revives,
    faults_so medium takes found mid new outlet outlet' result revives,
  )
