-- Slices of an open worker, one after another, and an upgrade.
use Rattle.std.proofs.Common.{◌≡◌, ◌∙◌, ℕ, ◌+◌, ◌<◌, ◌≤◌, false, true, [], ◌∷◌, ◌++◌}
use Rattle.std.proofs.Common.{Ok, Err, inl, inr, ⊎_elim, refl, sym, ap, subst, arith}
use Rattle.std.specs.Prelude.{◌≢◌, Result, IfErr, replicate}
use Rattle.wasi_abi.specs.declared.version.Version.{Version}
use Rattle.wasi_abi.specs.declared.version.Version.TheVariants.{One, Two}
use Rattle.wasi_calls.specs.rules.Held.{HeldWasiState}
use Rattle.process.specs.rules.Values.{ProcessValue, IsProcess}
use Rattle.sector_disk.specs.rules.Medium.{Medium}
use Rattle.disk_layout.specs.rules.Places.{total_sectors}
use Rattle.record_replay.specs.rules.Calls.{Giving, Taking, ports}
use Rattle.record_replay.specs.declared.slices.now.Now.{Now}
use Rattle.record_replay.specs.declared.slices.now.Now.TheVariants as now
use Rattle.record_replay.specs.declared.slices.fault.SliceFault.TheVariants as slice
use Rattle.record_replay.specs.rules.Slices.{Slices}
use Rattle.worker.specs.declared.fault.WorkFault.{WorkFault}
use Rattle.worker.specs.declared.fault.WorkFault.TheVariants as work
use Rattle.worker.specs.declared.recover_fault.RecoverFault.{RecoverFault}
use Rattle.worker.specs.declared.recover_fault.RecoverFault.TheVariants as recover
use Rattle.worker.specs.rules.DurableValues.{DurableValue, without_disk}
use Rattle.worker.specs.rules.DurableCalls.{ActCarries, CallKeeps}
use Rattle.worker.specs.rules.DurableFailures.{HasSliceCause}
use Rattle.worker.specs.rules.LifeWords.{Slice, Upgrade}
use Rattle.worker.specs.rules.Outlets.{TakesEach, HeedsOutlet, IsOutletFault, SaysOutletFault}
use Rattle.worker.specs.rules.Effects.{RecoversWorker}
use Rattle.worker.specs.rules.Upgrades.{HasUpgradeCause, IsNotCaughtUp, LeavesProcess}
use Rattle.worker.specs.rules.OneLife.{CallsInOrder, FailsBy, no_more, called, call_failed}
use Rattle.worker.specs.rules.OneLife.{recovered, opened}
use Rattle.worker.specs.rules.Outcomes.{outcome_after}
use Rattle.worker.proofs.OutletLemmas.{takes_both, heeds_on, each_taken}
use Rattle.command_words.specs.rules.Printers.{PrinterState, IsSaid, TellsPerson}
use Rattle.command_words.specs.declared.status.Status.{Status}
use Rattle.worker.specs.rules.Scenes.{Scene, scene, ports_of, surroundings_of}
use Rattle.disk_commands.specs.Livings.{HasDoneOnce}
use Rattle.disk_commands.specs.ComingUp.{ComesUp, EndsRun, IsUpgradedFrom, UpgradesOpen}
use Rattle.disk_commands.specs.declared.on_disk.fault.OnDiskFault.{OnDiskFault}
use Rattle.disk_commands.specs.declared.on_disk.upgrading.Upgraded.{Upgraded}
use Rattle.disk_commands.specs.declared.on_disk.upgrading.Upgraded.TheVariants as upgraded
use Rattle.disk_commands.specs.rules.BrokenLives.{BreaksInSlice, BreaksInSliceFrom, steps_among}
use Rattle.disk_commands.specs.rules.BrokenLives.{process_scene}
use Rattle.disk_commands.specs.rules.DiskStatuses.{opening_fault, call_fault, status_on_disk}
use Rattle.disk_commands.specs.rules.Hearings.{AsksUnless, IsOfSource}
use Rattle.disk_commands.specs.rules.ServedOnDisk.{outputs, recovered_line}
use Rattle.disk_commands.specs.rules.Upgradings.{LivesToUpgrade, UpgradesOnDisk, from_list}
use Rattle.disk_commands.specs.rules.Upgradings.{IsOfUpgrade, IsOfCaughtUp, undone_then}
use Rattle.disk_commands.proofs.BreakLemmas.{act_more, breaks_in_join}
use Rattle.disk_commands.proofs.HearingLemmas.{asked_on, asked_so_far, slice_hears}
use Rattle.disk_commands.proofs.LivingLemmas.{IsWithin, none_taken, within_more, acts_lead}
use Rattle.disk_commands.proofs.LivingLemmas.{call_leads, called_as, turned, slice_fewer}
use Rattle.disk_commands.proofs.OnDiskLemmas.{opens_none}
use Rattle.disk_commands.proofs.TakingLemmas.{IsOutletsCall, slice_takes}

-- ---- errors of an upgrade

-- by what one fails, of a worker that hadn't
of_upgrade : (w : DurableValue) (old new : Medium) (why : WorkFault) → w.has_failed ≡ false
    → HasUpgradeCause w old new why → IsOfUpgrade why
of_upgrade w old new (work.Work slice.Failed) unfailed cause =
    let both : false ≡ true = sym unfailed ∙ cause in absurd (cc)
of_upgrade w old new (work.Work slice.Source) unfailed cause = cause
of_upgrade w old new (work.Work slice.Outlet) unfailed cause = cause
of_upgrade w old new (work.Work slice.Memory) unfailed cause = cause
of_upgrade w old new (work.Work (slice.Refused why)) unfailed cause = cause
of_upgrade w old new (work.Disk why) unfailed cause = tt
of_upgrade w old new (work.Store why) unfailed cause = tt
of_upgrade w old new (work.Upgrade why) unfailed cause = tt

-- one that has caught up isn't told that it hasn't
of_caught_up : (w : DurableValue) (old new : Medium) (why : WorkFault) → w.is_abreast ≡ true
    → HasUpgradeCause w old new why → IsOfCaughtUp why
of_caught_up w old new why abreast cause same =
    let is : IsNotCaughtUp w =
    subst (λ (e : WorkFault). HasUpgradeCause w old new e) same cause in
    let behind = is.behind in absurd (cc)

-- nor is one in a slice
of_slice : (w : DurableValue) (old new : Medium) (why : WorkFault) → HasSliceCause w old new why
    → IsOfCaughtUp why
of_slice w old new why cause same =
    subst (λ (e : WorkFault). HasSliceCause w old new e) same cause

-- none is the outlet's
upgrade_is_other : (why : WorkFault) → IsOfUpgrade why → IsOutletsCall why → ⊥
upgrade_is_other (work.Work why) is told = is
upgrade_is_other (work.Disk why) is told = told
upgrade_is_other (work.Store why) is told = told
upgrade_is_other (work.Upgrade why) is told = told

module _ {D S O : Type 0} (medium : D → Medium) (gives : Giving S) (takes : Taking O) where
  -- ---- slices

  -- So many slices were taken from there on, each of which has spent its fuel. They are within any
  -- larger number of them.
  pub record HasComeTo (fuel : ℕ) (from here : Scene D S O) : Type 0 where
    pub count : ℕ
    pub within : (every : ℕ) → count < every
        → IsWithin medium gives takes (Slice fuel) every count from here
    pub room : total_sectors here.worker.store.geometry ≤ (medium here.disk).sectors

  pub none_come : (fuel : ℕ) (here : Scene D S O)
      → total_sectors here.worker.store.geometry ≤ (medium here.disk).sectors
      → HasComeTo fuel here here
  none_come fuel here room = record {
    count = 0;
    within = λ every some. none_taken medium gives takes (Slice fuel) every here some room;
    room = room;
  }

  module _ (fuel : ℕ) (from here : Scene D S O) (so_far : HasComeTo fuel from here)
      (w' : DurableValue) (disk' : D) (source' : S) (outlet' : O) where
    abbrev Slicing : Result Now WorkFault → Type 0
    Slicing result = CallKeeps medium gives takes (Slice fuel)
        (scene here.worker here.disk here.source here.outlet) result
        (scene w' disk' source' outlet')

    -- what a slice does, where it has no error
    abbrev Sliced : Now → Type 0
    Sliced said = Slices gives takes (without_disk here.worker) fuel said (without_disk w')
        (ports_of here) (ports source' outlet')

    -- until a call has failed it shows a process
    abbrev Shows : Type 0
    Shows = here.worker.has_failed ≡ false → IsProcess here.worker.process

    slice_heard : (said : Now) → Shows → Sliced said → AsksUnless gives ⊥ here.source source'
    slice_heard said shows slices =
        slice_hears gives takes fuel here.source source' here.outlet outlet'
        (without_disk here.worker) (without_disk w') said shows slices

    slice_taken : (said : Now) → Shows → Sliced said → TakesEach takes here.outlet outlet'
    slice_taken said shows slices =
        slice_takes gives takes fuel here.source source' here.outlet outlet'
        (without_disk here.worker) (without_disk w') said shows slices

    abbrev reached : Scene D S O
    reached = scene w' disk' source' outlet'

    slice_done : (said : Now) → Slicing (Ok said) → Shows → Sliced said
        → total_sectors w'.store.geometry ≤ (medium disk').sectors
        → HasDoneOnce medium gives takes (Slice fuel) here said reached
    slice_done said carries shows slices room = record {
      heard = slice_heard said shows slices;
      taken = slice_taken said shows slices;
      leads = call_leads medium gives takes (Slice fuel) here.worker w' here.disk disk'
          here.source source' here.outlet outlet' said carries;
      shows = shows;
      slices = slices;
      room = room;
    }

    pub come_more : Slicing (Ok now.Spent) → Shows → 0 < fuel → Sliced now.Spent
        → total_sectors w'.store.geometry ≤ (medium disk').sectors
        → HasComeTo fuel from reached
    come_more carries shows some slices room = record {
      count = so_far.count + 1;
      within = λ every few.
          within_more medium gives takes (Slice fuel) every so_far.count from here
          (so_far.within every (omega (arith, few))) now.Spent reached
          (slice_done now.Spent carries shows slices room) refl few
          (slice_fewer medium gives takes here.worker w' fuel now.Spent here.source source'
          here.outlet outlet' shows some slices refl);
      room = room;
    }

    so_many : IsWithin medium gives takes (Slice fuel) (so_far.count + 1) so_far.count from here
    so_many = so_far.within (so_far.count + 1) (omega arith)

    pub come_last : (said : Now) → Slicing (Ok said) → Shows → Sliced said
        → (said ≢ now.Spent → w'.is_abreast ≡ true)
        → ComesUp medium gives takes fuel from (Ok said) reached
    come_last said carries shows slices abreast = record {
      count = so_far.count + 1;
      heard = asked_on gives ⊥ from.source here.source source' so_many.heard
          (slice_heard said shows slices);
      taken = takes_both takes from.outlet here.outlet outlet' so_many.taken
          (slice_taken said shows slices);
      leads = acts_lead medium gives takes (Slice fuel) so_far.count from here so_many.leads said
          reached (call_leads medium gives takes (Slice fuel) here.worker w' here.disk disk'
          here.source source' here.outlet outlet' said carries);
      unfailed = slices.has_not_failed;
      abreast = abreast;
    }

    pub come_broken : (why : WorkFault) → Slicing (Err why) → Shows
        → AsksUnless gives (IsOfSource (Err (recover.Worker why))) here.source source'
        → HeedsOutlet takes (IsOutletsCall why) here.outlet outlet'
        → BreaksInSliceFrom gives takes fuel fuel here why source' outlet'
        → HasSliceCause here.worker (medium here.disk) (medium disk') why
        → ComesUp medium gives takes fuel from (Err why) (scene w' disk' source' outlet')
    come_broken why carries shows heard heeded breaks cause = record {
      count = so_far.count + 1;
      heard = asked_on gives (IsOfSource (Err (recover.Worker why))) from.source here.source
          source' so_many.heard heard;
      heeded = heeds_on takes (IsOutletsCall why) from.outlet here.outlet outlet' so_many.taken
          heeded;
      breaks = λ guest p is.
          let first = so_many.lead guest p is in
          subst (λ k. BreaksInSlice gives takes (process_scene guest p from.source from.outlet)
          (ports source' outlet') fuel k why) (sym (act_more (Slice fuel) so_far.count))
          (breaks_in_join gives takes guest p from.source here.source source' from.outlet
          here.outlet outlet' (steps_among (replicate so_far.count (Slice fuel)))
          here.worker.process first fuel fuel why (breaks guest first.process first.shows));
      done = λ rest.
          called_as medium gives takes from (Err (recover.Worker why)) (surroundings_of reached)
          (replicate so_far.count (Slice fuel) ++ (Slice fuel ∷ rest))
          (replicate (so_far.count + 1) (Slice fuel) ++ rest)
          (turned so_far.count (Slice fuel) rest)
          (so_many.leads.behind (Slice fuel ∷ rest) (Err (recover.Worker why))
          (surroundings_of reached) (call_failed {after = reached} carries
          (record { shows = shows; cause = cause })));
      caught_up = of_slice here.worker (medium here.disk) (medium disk') why cause;
    }

  -- ---- the upgrade

  module _ (from to : Scene D S O) (said : Now)
      (comes : ComesUp medium gives takes 100000 from (Ok said) to) (over : said ≢ now.Spent)
      (w' : DurableValue) (disk' : D) where
    abbrev upgraded_to : Scene D S O
    upgraded_to = scene w' disk' to.source to.outlet

    -- it, or its error, and nothing after it
    abbrev Last : Result (Unit {0}) WorkFault → Type 0
    Last result = CallsInOrder medium gives takes (Upgrade ∷ []) to (undone_then result)
        (surroundings_of upgraded_to)

    abbrev after_slices : (result : Result (Unit {0}) WorkFault) → Last result
        → CallsInOrder medium gives takes (replicate comes.count (Slice 100000) ++ (Upgrade ∷ []))
        from (undone_then result) (surroundings_of upgraded_to)
    after_slices result last =
        comes.leads.behind (Upgrade ∷ []) (undone_then result) (surroundings_of upgraded_to) last

    -- it doesn't change what the slices have answered
    run_on : (result : Result (Unit {0}) WorkFault) (last : Last result)
        → outcome_after said last ≡ said
        → outcome_after now.Spent (after_slices result last) ≢ now.Spent
    run_on result last same = λ spent.
        over (sym (comes.leads.says (Upgrade ∷ []) (undone_then result)
        (surroundings_of upgraded_to) last ∙ same) ∙ spent)

    ended : (result : Result (Unit {0}) WorkFault) (last : Last result)
        → (SaysOutletFault (undone_then result) → ⊥)
        → EndsRun medium gives takes from result comes.count (ports_of to)
        (outcome_after now.Spent (after_slices result last))
        → IfErr result IsOfCaughtUp
        → IsUpgradedFrom medium gives takes from result disk' to.outlet
    ended result last other ends caught_up = record {
      count = comes.count;
      source = to.source;
      heard = asked_so_far gives (IsOfSource (undone_then result)) from.source
          to.source comes.heard;
      heeded = inl (comes.taken, other);
      done = after_slices result last;
      ends = ends;
      caught_up = caught_up;
    }

    keeps_so : (result : Result (Unit {0}) WorkFault)
        → ActCarries Upgrade [] to.worker result w' (medium to.disk) (medium disk')
        → CallKeeps medium gives takes Upgrade
        (scene to.worker to.disk to.source to.outlet) result upgraded_to
    keeps_so result carries = ([], record { asked = refl; released = refl }, carries, refl)

    pub then_ended : (result : Result (Unit {0}) WorkFault) (outlet' : O) → outlet' ≡ to.outlet
        → ActCarries Upgrade [] to.worker result w' (medium to.disk) (medium disk')
        → (to.worker.has_failed ≡ false → IsProcess to.worker.process)
        → IfErr result (λ why. HasUpgradeCause to.worker (medium to.disk) (medium disk') why)
        → IfErr result (λ why. LeavesProcess to.worker why w'.process)
        → IsUpgradedFrom medium gives takes from result disk' outlet'
    then_ended (Ok done) outlet' quiet carries shows cause leaves =
        rw quiet (ended (Ok done)
        (called {after = upgraded_to} done (keeps_so (Ok done) carries) no_more) (λ told. told)
        (run_on (Ok done) (called {after = upgraded_to} done (keeps_so (Ok done) carries) no_more)
        refl) tt)
    then_ended (Err why) outlet' quiet carries shows cause leaves =
        let is : IsOfUpgrade why =
        of_upgrade to.worker (medium to.disk) (medium disk') why comes.unfailed cause in
        let fails : FailsBy Upgrade to.worker why w' (medium to.disk) (medium disk') =
        record { shows = shows; cause = (cause, leaves) } in
        rw quiet (ended (Err why)
        (call_failed {after = upgraded_to} (keeps_so (Err why) carries) fails)
        (upgrade_is_other why is) (inr (
          is,
          run_on (Err why) (call_failed {after = upgraded_to} (keeps_so (Err why) carries) fails)
              refl,
        ))
        (of_caught_up to.worker (medium to.disk) (medium disk') why (comes.abreast over) cause))

  pub not_come : (from to : Scene D S O) (why : WorkFault)
      → ComesUp medium gives takes 100000 from (Err why) to
      → IsUpgradedFrom medium gives takes from (Err why) to.disk to.outlet
  not_come from to why comes = record {
    count = comes.count;
    source = to.source;
    heard = comes.heard;
    heeded = comes.heeded;
    done = comes.done (Upgrade ∷ []);
    ends = inl comes.breaks;
    caught_up = comes.caught_up;
  }

module _ {D O : Type 0} (medium : D → Medium) (takes : Taking O) where
  -- a worker that was recovered, and then upgraded
  pub lives_to_upgrade : (w : DurableValue) (result : Result (Unit {0}) WorkFault)
      (found opening last : D) (o p q : O)
      → RecoversWorker medium takes (Ok w) found opening o p
      → HeedsOutlet takes ⊥ o p → w.process.host.host.version ≡ One
      → IsUpgradedFrom medium from_list takes (scene w opening [] p) result last q
      → LivesToUpgrade medium takes (undone_then result) found last o q
  lives_to_upgrade w result found opening last o p q recovers heeds narrow done = record {
    worker = w;
    narrow = narrow;
    opening = opening;
    retold = p;
    recovers = recovers;
    count = done.count;
    source' = done.source;
    heard = done.heard;
    heeded = heeds_on takes (SaysOutletFault (undone_then result)) o p q
        (each_taken takes ⊥ o p (λ told. told) heeds) done.heeded;
    life = λ image leaves bytes config.
        opened (recovered image leaves (λ none. none) recovers.recovers recovers.carries)
        done.done;
  }

  -- ---- what the command says

  -- a worker that isn't opened
  pub none_upgraded : (why : RecoverFault) (told : OnDiskFault) (found last : D) (o q : O)
      (err err' : PrinterState) (status : Status)
      → RecoversWorker medium takes (Err why) found last o q
      → HeedsOutlet takes (IsOutletFault why) o q → told ≡ opening_fault why
      → IsSaid (status_on_disk told) err status err'
      → UpgradesOnDisk medium takes (Err status) found last (outputs o err) (outputs q err')
  none_upgraded why told found last o q err err' status recovers heeds tells says =
      inl (
        why,
        opens_none medium takes why found last o q recovers heeds,
        subst (λ t. IsSaid (status_on_disk t) err status err') tells says,
      )

  -- one that was of version 2
  was_of_two : (w : DurableValue) (found last : D) (o p : O) (err err' : PrinterState)
      → RecoversWorker medium takes (Ok w) found last o p → HeedsOutlet takes ⊥ o p
      → w.process.host.host.version ≡ Two → TellsPerson (recovered_line w) err err'
      → UpgradesOnDisk medium takes (Ok upgraded.Before) found last (outputs o err)
      (outputs p err')
  was_of_two w found last o p err err' recovers heeds version tells = (
    record {
      worker = w;
      version = version;
      recovers = recovers;
      taken = each_taken takes ⊥ o p (λ told. told) heeds;
    },
    tells,
  )

  -- one of version 1
  module _ (w : DurableValue) (found opening last : D) (o p q : O) (err between : PrinterState)
      (recovers : RecoversWorker medium takes (Ok w) found opening o p)
      (heeds : HeedsOutlet takes ⊥ o p) (narrow : w.process.host.host.version ≡ One)
      (tells : TellsPerson (recovered_line w) err between) where
    is_upgraded : IsUpgradedFrom medium from_list takes (scene w opening [] p) (Ok tt) last q
        → UpgradesOnDisk medium takes (Ok upgraded.Now) found last (outputs o err)
        (outputs q between)
    unfolding lives_to_upgrade
    is_upgraded done = (
      lives_to_upgrade w (Ok tt) found opening last o p q recovers heeds narrow done,
      λ image leaves bytes config. done.ends,
      tells,
    )

    not_upgraded : (why : WorkFault) (err' : PrinterState) (status : Status)
        → IsUpgradedFrom medium from_list takes (scene w opening [] p) (Err why) last q
        → IsSaid (status_on_disk (call_fault why)) between status err'
        → UpgradesOnDisk medium takes (Err status) found last (outputs o err) (outputs q err')
    unfolding lives_to_upgrade
    not_upgraded why err' status done says = inr (
      why,
      between,
      lives_to_upgrade w (Err why) found opening last o p q recovers heeds narrow done,
      ⊎_elim (λ breaks. inl breaks)
          (λ (other : IsOfUpgrade why × (outcome_after now.Spent done.done ≢ now.Spent)).
          inr (other.0, λ image leaves bytes config. other.1)) done.ends,
      tells,
      says,
      done.caught_up,
    )

  -- one that is open
  pub open_upgraded : (w : DurableValue) (found opening last : D) (o p q : O)
      (err err' : PrinterState)
      → RecoversWorker medium takes (Ok w) found opening o p → HeedsOutlet takes ⊥ o p
      → (result : Result Upgraded Status)
      → UpgradesOpen medium takes w result opening last (outputs p err) (outputs q err')
      → UpgradesOnDisk medium takes result found last (outputs o err) (outputs q err')
  open_upgraded w found opening last o p q err err' recovers heeds (Ok upgraded.Now) does =
      is_upgraded w found opening last o p q err err' recovers heeds does.0 does.1 does.2
  open_upgraded w found opening last o p q err err' recovers heeds (Ok upgraded.Before) does =
      rw (does.2, does.3) (was_of_two w found opening o p err err' recovers heeds does.0 does.1)
  open_upgraded w found opening last o p q err err' recovers heeds (Err status) does =
      not_upgraded w found opening last o p q err does.1 recovers heeds does.2 does.3 does.0 err'
      status does.4 does.5

-- the version of a worker, as its process and its host say it
pub version_is : (w : DurableValue) (p : ProcessValue) (h : HeldWasiState) (found version : Version)
    → found ≡ h.host.version → h ≡ p.host → p ≡ w.process → found ≡ version
    → w.process.host.host.version ≡ version
version_is w p h found version of_host of_process of_worker is =
    sym (of_host ∙ ap (λ (z : HeldWasiState). z.host.version) of_process
    ∙ ap (λ (z : ProcessValue). z.host.host.version) of_worker) ∙ is
