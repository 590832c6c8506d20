-- The calls of one life make a life that goes on.
use Rattle.std.proofs.Common.{◌≡◌, ℕ, ◌+◌, ◌<◌, ◌≤◌, List, [], ◌∷◌, ◌++◌, refl, sym, ap, ◌∙◌}
use Rattle.std.proofs.Common.{length, length-append, subst, inl, inr, ⊎_elim, arith}
use Rattle.std.proofs.lemmas.Bool.Decides.{nat_tests}
use Rattle.std.proofs.lemmas.List.{append-nil, append_assoc}
use Rattle.std.specs.Prelude.{◌⊎◌, Bool, Result, Ok, Err, Option, Some, None, true, false, nat_le}
use Rattle.std.specs.Prelude.{map}
use Rattle.wasm_syntax.specs.declared.module.Module.{Module}
use Rattle.wasi_abi.specs.rules.Configs.{Settings}
use Rattle.process_rules.specs.Runs.{Kept}
use Rattle.state_image.specs.rules.ProcessImage.{Saved}
use Rattle.state_image.specs.rules.Saving.{saved_of}
use Rattle.sector_disk.specs.rules.Medium.{Medium}
use Rattle.disk_layout.specs.rules.Places.{geometry_of}
use Rattle.disk_layout.specs.rules.Unsynced.{most_unsynced}
use Rattle.record_replay.specs.rules.Calls.{Giving, Taking, Begun, Exchange, Asks, Tells}
use Rattle.record_replay.specs.rules.Calls.{Releases, AnswersInOrder, Exchanges}
use Rattle.record_replay.proofs.Following.{exchanges_join}
use Rattle.record_replay.proofs.Joining.{tells_ask_nothing, releases_of_tells}
use Rattle.worker_store.specs.restart_theorem.Lives.{Act, Inputs, Cause, OfDisk, OfSource, OfAnswer}
use Rattle.worker_store.specs.restart_theorem.Lives.{OfOutlet, OfMemory, OfBounds, OfJournal}
use Rattle.worker_store.specs.restart_theorem.Lives.{OfLines, Fails, Event, Ended, told_in}
use Rattle.worker_store.specs.restart_theorem.Lives.{kept_by_end, Beginning, Creates, End, Finished}
use Rattle.worker_store.specs.restart_theorem.Lives.{Stopped, Failed, Life, Slice, Batch}
use Rattle.worker_store.specs.restart_theorem.Lives.{Checkpoint, Upgrade}
use Rattle.worker_store.specs.restart_theorem.Courses.{Stage, Phase, Shut, Unheard, NoneThere}
use Rattle.worker_store.specs.restart_theorem.Courses.{Broken, MayFail, Open, Closed, at_beginning}
use Rattle.worker_store.specs.restart_theorem.Courses.{next_stage, stage_after, HasFailed}
use Rattle.worker_store.specs.restart_theorem.Courses.{HasDiskFault, HasStopped, HasNotStopped}
use Rattle.worker_store.specs.restart_theorem.Courses.{HasLastAsked, IsCutIn, MayEnd}
use Rattle.worker_store.specs.restart_theorem.Promises.{Promise, as_begun, after, promised, IsKept}
use Rattle.worker_store.specs.restart_theorem.Promises.{AreKept, OpensAnew}
use Rattle.worker_store.specs.restart_theorem.Holds.{HoldsPromise, KeepsPromise, KeepsBounds}
use Rattle.worker_store.specs.restart_theorem.Between.{IsLivedOn}
use Rattle.worker_store.proofs.RestartLemmas.Promised.{calls_join}
use Rattle.worker_store.proofs.RestartLemmas.Pleas.{fails_or_open, fails_or_last}
use Rattle.worker_store.specs.laws.Carried.{PromisesNoMore}
use Rattle.worker_store.specs.laws.Laws.{ProcessImagesFitAreas}
use Rattle.worker_store.proofs.LawLemmas.Carrying.{less_is_held}
use Rattle.worker_store.proofs.LawLemmas.Pieces.{parts_are_foretold}
use Rattle.worker_store.specs.declared.fault.StoreFault.TheVariants as store
use Rattle.record_replay.specs.declared.fault.ReplayFault.TheVariants as replay
use Rattle.record_replay.specs.declared.slices.fault.SliceFault.TheVariants as slice
use Rattle.record_replay.specs.declared.slices.fault.Refusal.TheVariants as refusal
use Rattle.worker.specs.declared.fault.WorkFault.TheVariants.{Work, Disk, Store, Upgrade}
use Rattle.worker.specs.declared.upgrade_fault.UpgradeFault.TheVariants as upgrade
use Rattle.worker.specs.declared.recover_fault.RecoverFault.{RecoverFault}
use Rattle.worker.specs.declared.recover_fault.RecoverFault.TheVariants as recover
use Rattle.worker.specs.rules.CallCounts.{CallsForEvents}
use Rattle.worker.specs.rules.DurableValues.{DurableValue}
use Rattle.worker.specs.rules.OneLife.{opened, unopened, opened_in, shown_first, IsCauseOf}
use Rattle.worker.specs.rules.Scenes.{scene, site}
use Rattle.worker.specs.laws.OneLife.{IsLater, CameTrue, IsLifeOver, released_in, EndsBy, IsLifeOf}
use Rattle.worker.specs.laws.OneLife.{CallsMakeLives, AnythingComesTrue}
use Rattle.worker.proofs.CallCountLemmas.{calls_longer, calls_then}
use Rattle.worker.proofs.LifeLemmas.Joined.{stage_join, promised_join, told_join, opened_before}
use Rattle.worker.proofs.LifeLemmas.Joined.{shown_before, released_join}
use Rattle.worker.proofs.LifeLemmas.Called.{later_still, HasDiskCause}
use Rattle.worker.proofs.LifeLemmas.Making.{IsGoing, HasBroken, ComeTo, CallsMake, calls_make}
use Rattle.worker.proofs.LifeLemmas.Making.{come_since}
use Rattle.worker.proofs.LifeLemmas.Opening.{IsOpened, HasNotOpened, IsUnopenedBy, opening}
use Rattle.worker.proofs.EndLemmas.{not_both}

-- ---- stops and faults

stops_or_not : (stop : Option ℕ) (calls : ℕ) → HasStopped stop calls ⊎ HasNotStopped stop calls
stops_or_not None calls = inr tt
stops_or_not (Some k) calls = by (nat_le k calls) refl
  where
    by : (b : Bool) → nat_le k calls ≡ b → (k ≤ calls) ⊎ (calls < k)
    by true e = inl (grind (arith, nat_tests))
    by false e = inr (grind (arith, nat_tests))

-- a cause that is not the disk's wants no fault of the disk
other_fault : (fails : Option ℕ) (calls : ℕ) (cause : Cause) → (cause ≡ OfDisk → ⊥)
    → HasDiskFault fails cause calls
other_fault None calls OfDisk other = absurd (other refl)
other_fault (Some k) calls OfDisk other = absurd (other refl)
other_fault None calls OfSource other = tt
other_fault (Some k) calls OfSource other = tt
other_fault None calls OfAnswer other = tt
other_fault (Some k) calls OfAnswer other = tt
other_fault None calls OfOutlet other = tt
other_fault (Some k) calls OfOutlet other = tt
other_fault None calls OfMemory other = tt
other_fault (Some k) calls OfMemory other = tt
other_fault None calls OfBounds other = tt
other_fault (Some k) calls OfBounds other = tt
other_fault None calls OfJournal other = tt
other_fault (Some k) calls OfJournal other = tt
other_fault None calls OfLines other = tt
other_fault (Some k) calls OfLines other = tt

enough : (config : Settings) (n : ℕ)
    → (config.journal ≤ most_unsynced (geometry_of config n))
    × ((geometry_of config 0).area_sectors ≤ most_unsynced (geometry_of config n))
enough config n = (omega arith, omega arith)

module _ (bytes : List ℕ) (config : Settings) (inputs : Inputs) (exchanges : List Exchange)
    (undone : Result (List Act) RecoverFault) (calls : ℕ) (found last : Medium)
    (met : CameTrue bytes config inputs exchanges undone calls found last)
    (later : IsLater found last) (going : HasNotStopped inputs.stop calls) where
  -- an error has a cause that was put in
  fault_of : (why : RecoverFault) (cause : Cause) → IsCauseOf why cause
      → HasDiskCause config why found last → HasDiskFault inputs.fails cause calls
  fault_of (recover.Worker (Disk fault)) cause is (inl few) =
      let room = met.room in
      let some = enough config (length bytes) in
      ⊎_elim (λ (few : found.room < config.journal).
      let journal = some.0 in absurd (omega (arith, few, room, journal)))
      (λ (few : found.room < (geometry_of config 0).area_sectors).
      let area = some.1 in absurd (omega (arith, few, room, area))) few
  fault_of (recover.Worker (Disk fault)) cause is (inr failed) =
      ⊎_elim (λ (told : HasDiskFault inputs.fails OfDisk calls).
      subst (λ (c : Cause). HasDiskFault inputs.fails c calls) (sym is) told)
      (λ (stopped : HasStopped inputs.stop calls).
      absurd (not_both inputs.stop calls stopped going)) (met.faults later failed)
  fault_of (recover.Worker (Work slice.Source)) cause (inl is) disk =
      other_fault inputs.fails calls cause (λ e. absurd (cc))
  fault_of (recover.Worker (Work slice.Source)) cause (inr is) disk =
      other_fault inputs.fails calls cause (λ e. absurd (cc))
  fault_of (recover.Worker (Work slice.Outlet)) cause is disk =
      other_fault inputs.fails calls cause (λ e. absurd (cc))
  fault_of (recover.Worker (Work slice.Memory)) cause is disk =
      other_fault inputs.fails calls cause (λ e. absurd (cc))
  fault_of (recover.Worker (Work (slice.Refused refusal.StepsSpent))) cause is disk =
      other_fault inputs.fails calls cause (λ e. absurd (cc))
  fault_of (recover.Worker (Work (slice.Refused (refusal.Module why)))) cause is disk = absurd is
  fault_of (recover.Worker (Work slice.Failed)) cause is disk = absurd is
  fault_of (recover.Worker (Store store.TooBig)) cause is disk =
      other_fault inputs.fails calls cause (λ e. absurd (cc))
  fault_of (recover.Worker (Store other)) cause is disk = absurd is
  fault_of (recover.Worker (Upgrade upgrade.JournalTooSmall)) cause is disk =
      other_fault inputs.fails calls cause (λ e. absurd (cc))
  fault_of (recover.Worker (Upgrade upgrade.NotCaughtUp)) cause is disk =
      other_fault inputs.fails calls cause (λ e. absurd (cc))
  fault_of (recover.Replay replay.Diverged) cause is disk = absurd is.0
  fault_of (recover.Replay replay.Memory) cause is disk =
      other_fault inputs.fails calls cause (λ e. absurd (cc))
  fault_of (recover.Replay replay.Outlet) cause is disk =
      other_fault inputs.fails calls cause (λ e. absurd (cc))
  fault_of other cause is disk =
      let of_memory = is.1 in other_fault inputs.fails calls cause (λ e. absurd (cc))

-- ---- what a disk keeps

module _ (m : Module) (config : Settings) where
  -- however much has happened
  recounted : (promise : Promise) (n : ℕ) (disk : Medium) → KeepsPromise m config promise disk
      → KeepsPromise m config (record promise { events = n }) disk
  recounted promise n disk keeps image leaves =
      ⊎_elim (λ unopened. inl (
        ap (λ (p : Promise). record p { events = n }) unopened.0,
        unopened.1,
      )) (λ (h : HoldsPromise m config promise promise image).
      let all = h.holds in
      inr (record {
        created = h.created;
        held = h.held;
        steps = h.steps;
        stands = h.stands;
        holds = record {
          within = all.within;
          up_to = all.up_to;
          answers = all.answers;
          steps_held = all.steps_held;
          lines = all.lines;
          syncs = all.syncs;
        };
        snapshot_heard = h.snapshot_heard;
        snapshot_passed = h.snapshot_passed;
      })) (keeps image leaves)

  -- an error promises no less than was promised before it
  before_fault : (promise : Promise) (act : Act) (cause : Cause) (held : ℕ) (shown : Saved)
      → PromisesNoMore promise
      (record (after promise (Ended act (Fails cause) held shown)) { kept = promise.kept })
  before_fault promise act cause held shown = record {
    answers = omega arith;
    steps = omega arith;
    passed = omega arith;
    begun = omega arith;
    synced = omega arith;
  }

  unended_same : (promise : Promise) (act : Act) (cause : Cause) (held : ℕ) (shown : Saved)
      (disk : Medium) → promise.has_opened ≡ true
      → KeepsPromise m config
      (record (after promise (Ended act (Fails cause) held shown)) { kept = promise.kept }) disk
      → KeepsPromise m config promise disk
  unended_same promise act cause held shown disk has_opened keeps image leaves =
      let now : Promise =
      record (after promise (Ended act (Fails cause) held shown)) { kept = promise.kept } in
      ⊎_elim (λ unopened.
      let no : promise.has_opened ≡ false = ap (λ (p : Promise). p.has_opened) unopened.0 in
      absurd (cc)) (λ (h : HoldsPromise m config now now image).
      let less = less_is_held m config promise now now image
      (before_fault promise act cause held shown) h in
      inr (record {
        created = less.created;
        held = less.held;
        steps = less.steps;
        stands = less.stands;
        holds = less.holds;
        snapshot_heard = less.snapshot_heard;
        snapshot_passed = less.snapshot_passed;
      })) (keeps image leaves)

  -- Where that has widened nothing, the disk keeps what was promised before it.
  unended : (promise : Promise) (act : Act) (cause : Cause) (held : ℕ) (shown : Saved)
      (disk : Medium) → promise.has_opened ≡ true
      → kept_by_end act shown promise.kept ≡ promise.kept
      → KeepsPromise m config (after promise (Ended act (Fails cause) held shown)) disk
      → KeepsPromise m config promise disk
  unended promise act cause held shown disk has_opened same keeps =
      unended_same promise act cause held shown disk has_opened
      (subst (λ (l : List Kept). KeepsPromise m config
      (record (after promise (Ended act (Fails cause) held shown)) { kept = l }) disk) same keeps)

  later_bound : (n k : ℕ) (disk : Medium) → n ≤ k → KeepsBounds n disk → KeepsBounds k disk
  later_bound n k disk le keeps image leaves other settings kept steps stands =
      let bounds = keeps image leaves other settings kept steps stands in
      let early = bounds.0 in (omega (arith, le, early), bounds.1)

-- ---- the life

-- where an error may come, no call has closed
may_fail_cut : (phase : Phase) (cause : Cause) → MayFail phase cause → IsCutIn phase
may_fail_cut Shut cause may = tt
may_fail_cut Unheard cause may = tt
may_fail_cut Open cause may = tt
may_fail_cut (NoneThere steps) cause may = tt
may_fail_cut (Broken why) cause may = tt
may_fail_cut (Closed why) cause may = absurd may

last_cut : (phase : Phase) → HasLastAsked phase → IsCutIn phase
last_cut Shut asked = tt
last_cut Unheard asked = tt
last_cut Open asked = tt
last_cut (NoneThere steps) asked = tt
last_cut (Broken why) asked = tt
last_cut (Closed why) asked = absurd asked

failed_cut : (m : Module) (config : Settings) (promise : Promise) (stage : Stage) (act : Act)
    (cause : Cause) (held : ℕ) (shown : Saved)
    → IsKept m config promise stage (Ended act (Fails cause) held shown) → IsCutIn stage.phase
failed_cut m config promise stage (Slice fuel) cause held shown kept =
    may_fail_cut stage.phase cause kept.reply.0
failed_cut m config promise stage (Batch fuel most) cause held shown kept =
    ⊎_elim
    (λ (may : MayFail stage.phase cause). may_fail_cut stage.phase cause may)
    (λ (asked : HasLastAsked stage.phase). last_cut stage.phase asked)
    (fails_or_last stage.phase cause kept.reply.0)
failed_cut m config promise stage Checkpoint cause held shown kept =
    may_fail_cut stage.phase cause kept.reply.0
failed_cut m config promise stage Upgrade cause held shown kept =
    ⊎_elim
    (λ (may : MayFail stage.phase cause). may_fail_cut stage.phase cause may)
    (λ (opened : stage.phase ≡ Open). subst (λ (q : Phase). IsCutIn q) (sym opened) tt)
    (fails_or_open config (kept_by_end Upgrade shown promise.kept) stage cause kept.reply.0)

module _ (m : Module) (config : Settings) (bytes : List ℕ) (before : Promise) (inputs : Inputs)
    (begins : Beginning) (exchanges : List Exchange) (worker : Option DurableValue) (calls : ℕ)
    (found last : Medium) where
  -- what is promised as the life begins
  abbrev so_far : Promise
  so_far = as_begun begins before

  -- what the law says
  abbrev pub LifeGoesOn : Result (List Act) RecoverFault → Type 0
  LifeGoesOn undone = (life : Life) × IsLifeOf inputs begins exchanges worker undone calls life
      × IsLivedOn m config before inputs life found last × IsLater found last
      × CallsForEvents (length life.events + 1) found last

  -- a life of these events
  abbrev pub life_of : List Event → End → Life
  life_of events ends = record { begins = begins; events = events; calls = calls; ends = ends }

  module _ (undone : Result (List Act) RecoverFault) (events : List Event)
      (kept : AreKept m config so_far (at_beginning begins inputs) events)
      (told : told_in events ≡ released_in exchanges)
      (shown : opened_in events ≡ shown_first worker)
      (anew : begins ≡ Creates → (so_far.has_opened ≡ false) × OpensAnew events) where
    ends_so : (ends : End) → EndsBy inputs calls undone ends
        → MayEnd inputs (promised so_far events).events calls
        (stage_after (at_beginning begins inputs) events) ends
        → KeepsPromise m config (promised so_far events) last
        → KeepsBounds ((promised so_far events).events + 1) last → IsLater found last
        → CallsForEvents (length events + 1) found last → LifeGoesOn undone
    ends_so ends by may keeps bounded later few = (
      life_of events ends,
      record { begins_so = refl; told = told; shown = shown; counted = refl; ends = by },
      λ was within. (
        record { kept = kept; ends = may; begins = anew },
        recounted m config (promised so_far events) ((promised so_far events).events + 1) last
            keeps,
        bounded,
      ),
      later,
      few,
    )

  module _ (events : List Event)
      (kept : AreKept m config so_far (at_beginning begins inputs) events)
      (told : told_in events ≡ released_in exchanges)
      (shown : opened_in events ≡ shown_first worker)
      (anew : begins ≡ Creates → (so_far.has_opened ≡ false)
      × ((more : List Event) → OpensAnew (events ++ more))) where
    anew_alone : begins ≡ Creates → (so_far.has_opened ≡ false) × OpensAnew events
    anew_alone creates =
        let both = anew creates in
        (both.0, subst OpensAnew (append-nil events) (both.1 []))

    -- no call has failed
    ends_going : (acts : List Act)
        → IsGoing m config (promised so_far events)
        (stage_after (at_beginning begins inputs) events) acts last
        → IsLifeOver inputs calls (Ok acts) → IsLater found last
        → CallsForEvents (length events + 1) found last → LifeGoesOn (Ok acts)
    ends_going acts go over later few = by acts go over (stops_or_not inputs.stop calls)
      where
        more : KeepsBounds (promised so_far events).events last
            → KeepsBounds ((promised so_far events).events + 1) last
        more bounded = later_bound m config (promised so_far events).events
            ((promised so_far events).events + 1) last (omega arith) bounded

        by : (acts : List Act)
            → IsGoing m config (promised so_far events)
            (stage_after (at_beginning begins inputs) events) acts
            last
            → IsLifeOver inputs calls (Ok acts)
            → HasStopped inputs.stop calls ⊎ HasNotStopped inputs.stop calls
            → LifeGoesOn (Ok acts)
        by acts go over (inl stopped) =
            ends_so (Ok acts) events kept told shown anew_alone Stopped stopped
            (subst IsCutIn (sym go.phase) tt, stopped) go.keeps (more go.bounded) later few
        by [] go over (inr going) =
            ends_so (Ok []) events kept told shown anew_alone Finished (refl, going)
            (go.phase, go.acts_are, going) go.keeps (more go.bounded) later few
        by (act ∷ acts) go over (inr going) = absurd (not_both inputs.stop calls over going)

    -- a call has
    ends_broken : (why : RecoverFault)
        → CameTrue bytes config inputs exchanges (Err why) calls found last
        → HasBroken m config (promised so_far events)
        (stage_after (at_beginning begins inputs) events) why
        found last → IsLater found last → CallsForEvents (length events + 1) found last
        → LifeGoesOn (Err why)
    ends_broken why came b later few = by (stops_or_not inputs.stop calls)
      where
        end : Event
        end = Ended b.act (Fails b.cause) b.held b.shown

        joined : promised so_far (events ++ end ∷ []) ≡ after (promised so_far events) end
        joined = promised_join so_far events (end ∷ [])

        staged : stage_after (at_beginning begins inputs) (events ++ end ∷ [])
            ≡ next_stage (stage_after (at_beginning begins inputs) events) end
        staged = stage_join (at_beginning begins inputs) events (end ∷ [])

        all_kept : AreKept m config so_far (at_beginning begins inputs) (events ++ end ∷ [])
        all_kept =
            let all = calls_join m config so_far (at_beginning begins inputs) events (end ∷ []) kept
            (b.ended, tt) in all.0

        still_shown : opened_in (events ++ end ∷ []) ≡ shown_first worker
        still_shown = shown_before events b.act (Fails b.cause) b.held b.shown ∙ shown

        fails : HasNotStopped inputs.stop calls
            → MayEnd inputs (promised so_far (events ++ end ∷ [])).events calls
            (stage_after (at_beginning begins inputs) (events ++ end ∷ [])) (Failed b.cause)
        fails going = (
          subst (λ (s : Stage). HasFailed (promised so_far (events ++ end ∷ [])).events s.phase
              b.cause) (sym staged) refl,
          fault_of bytes config inputs exchanges (Err why) calls found last came later going why
              b.cause
              b.is b.disk,
          going,
        )

        -- The power was cut, and the call has seen it as a fault of the disk.
        cut_at_end : b.cause ≡ OfDisk → HasStopped inputs.stop calls
            → MayEnd inputs (promised so_far (events ++ end ∷ [])).events calls
            (stage_after (at_beginning begins inputs) (events ++ end ∷ [])) Stopped
        cut_at_end of_disk stopped =
            (subst (λ (s : Stage). IsCutIn s.phase) (sym staged) of_disk, stopped)

        -- with the end of the call
        with_end : (ends : End) → EndsBy inputs calls (Err why) ends
            → MayEnd inputs (promised so_far (events ++ end ∷ [])).events calls
            (stage_after (at_beginning begins inputs) (events ++ end ∷ [])) ends
            → LifeGoesOn (Err why)
        with_end ends by may =
            ends_so (Err why) (events ++ end ∷ []) all_kept
            (told_join events (end ∷ []) ∙ append-nil (told_in events) ∙ told) still_shown
            (λ creates. let both = anew creates in (both.0, both.1 (end ∷ []))) ends by may
            (subst (λ (p : Promise). KeepsPromise m config p last) (sym joined) b.keeps)
            (subst (λ (p : Promise). KeepsBounds (p.events + 1) last) (sym joined)
            (later_bound m config ((promised so_far events).events + 1)
            ((promised so_far events).events + 1 + 1) last (omega arith) b.bounded)) later
            (calls_longer (length events + 1) (length (events ++ end ∷ []) + 1) found last
            (omega (arith, length-append events (end ∷ []))) few)

        -- without it, where the error comes from elsewhere
        without_end : HasStopped inputs.stop calls → (b.cause ≡ OfDisk → ⊥)
            → LifeGoesOn (Err why)
        without_end stopped other =
            ends_so (Err why) events kept told shown anew_alone Stopped stopped (
              failed_cut m config (promised so_far events)
                  (stage_after (at_beginning begins inputs) events)
                  b.act b.cause b.held b.shown b.ended,
              stopped,
            )
            (unended m config (promised so_far events) b.act b.cause b.held b.shown last
            b.has_opened (b.widens other) b.keeps) b.bounded later few

        cut : (cause : Cause) → b.cause ≡ cause → HasStopped inputs.stop calls
            → LifeGoesOn (Err why)
        cut OfDisk is stopped = with_end Stopped stopped (cut_at_end is stopped)
        cut OfSource is stopped = without_end stopped (λ e. absurd (cc))
        cut OfAnswer is stopped = without_end stopped (λ e. absurd (cc))
        cut OfOutlet is stopped = without_end stopped (λ e. absurd (cc))
        cut OfMemory is stopped = without_end stopped (λ e. absurd (cc))
        cut OfBounds is stopped = without_end stopped (λ e. absurd (cc))
        cut OfJournal is stopped = without_end stopped (λ e. absurd (cc))
        cut OfLines is stopped = without_end stopped (λ e. absurd (cc))

        by : HasStopped inputs.stop calls ⊎ HasNotStopped inputs.stop calls → LifeGoesOn (Err why)
        by (inl stopped) = cut b.cause refl stopped
        by (inr going) = with_end (Failed b.cause) (why, refl, b.is, going) (fails going)

  -- it wasn't opened
  ends_unopened : (why : RecoverFault)
      → CameTrue bytes config inputs exchanges (Err why) calls found last → worker ≡ None
      → IsUnopenedBy m config so_far inputs begins exchanges why found last
      → LifeGoesOn (Err why)
  ends_unopened why came nobody u = by (stops_or_not inputs.stop calls)
    where
      because : HasNotOpened m config so_far inputs (promised so_far u.events).events
          (stage_after (at_beginning begins inputs) u.events).phase why found last
      because = u.because

      shown : opened_in u.events ≡ shown_first worker
      shown = u.shut ∙ sym (ap shown_first nobody)

      by : HasStopped inputs.stop calls ⊎ HasNotStopped inputs.stop calls → LifeGoesOn (Err why)
      by (inl stopped) =
          ends_so (Err why) u.events u.kept u.told shown u.anew Stopped stopped
          (because.cut, stopped) u.keeps u.bounded u.later u.counted
      by (inr going) =
          ends_so (Err why) u.events u.kept u.told shown u.anew (Failed because.cause)
          (why, refl, because.is, going) (
            because.failed,
            fault_of bytes config inputs exchanges (Err why) calls found last came
                u.later going why because.cause because.is because.disk,
            going,
          ) u.keeps u.bounded u.later u.counted

  -- it was, and calls followed
  ends_opened : (w : DurableValue) (told more : List Exchange)
      (undone : Result (List Act) RecoverFault) (disk : Medium) → worker ≡ Some w
      → exchanges ≡ told ++ more
      → CameTrue bytes config inputs exchanges undone calls found last
      → (o : IsOpened m config so_far inputs begins told w found disk)
      → CallsMake m config (promised so_far o.events)
      (stage_after (at_beginning begins inputs) o.events) more
      undone disk last → LifeGoesOn undone
  ends_opened w told more undone disk somebody are came o c = by undone came come
    where
      events : List Event
      events = o.events ++ c.events

      joined : AreKept m config so_far (at_beginning begins inputs) events
          × (promised so_far events ≡ promised (promised so_far o.events) c.events)
          × (stage_after (at_beginning begins inputs) events
          ≡ stage_after (stage_after (at_beginning begins inputs) o.events) c.events)
      joined =
          calls_join m config so_far (at_beginning begins inputs) o.events c.events o.kept c.kept

      all_told : told_in events ≡ released_in exchanges
      all_told = told_join o.events c.events ∙ ap (λ l. l ++ told_in c.events) o.told
          ∙ ap (λ l. released_in told ++ l) c.told ∙ sym (released_join told more)
          ∙ ap released_in (sym are)

      shown : opened_in events ≡ shown_first worker
      shown = opened_before o.events c.events (saved_of w.process) o.shown
          ∙ sym (ap shown_first somebody)

      anew : begins ≡ Creates → (so_far.has_opened ≡ false)
          × ((others : List Event) → OpensAnew (events ++ others))
      anew creates =
          let both = o.anew creates in (
            both.0,
            λ others. subst OpensAnew (sym (append_assoc o.events c.events others))
                (both.1 (c.events ++ others)),
          )

      come : ComeTo m config (promised so_far events)
          (stage_after (at_beginning begins inputs) events) undone found last
      come = come_since m config (promised so_far events)
          (stage_after (at_beginning begins inputs) events) undone found disk last o.later
          (subst (λ (p : Promise). ComeTo m config p
          (stage_after (at_beginning begins inputs) events) undone
          disk last) (sym joined.1)
          (subst (λ (s : Stage). ComeTo m config (promised (promised so_far o.events) c.events) s
          undone disk last) (sym joined.2) c.come))

      still : IsLater found last
      still = later_still found disk last o.later c.later

      few : CallsForEvents (length events + 1) found last
      few =
          let later = o.later in
          calls_then (length o.events) (length c.events + 1) (length events + 1) found disk last
          later.sectors o.counted c.counted (omega (arith, length-append o.events c.events))

      by : (undone : Result (List Act) RecoverFault)
          → CameTrue bytes config inputs exchanges undone calls found last
          → ComeTo m config (promised so_far events)
          (stage_after (at_beginning begins inputs) events) undone
          found last → LifeGoesOn undone
      by (Ok acts) met so =
          ends_going events joined.0 all_told shown anew acts so met.over still few
      by (Err why) met so =
          ends_broken events joined.0 all_told shown anew why met so still few

-- ---- the laws

-- what is told while it opens, as exchanges
pub told_alone : {S O : Type 0} (gives : Giving S) (takes : Taking O) (source : S)
    (outlet outlet' : O) (told : List Begun) → Releases takes outlet told outlet'
    → Exchanges gives takes source outlet (map Tells told) source outlet'
told_alone gives takes source outlet outlet' told released = record {
  asked = subst (λ z. AnswersInOrder gives source z source) (sym (tells_ask_nothing told)) refl;
  released = subst (λ z. Releases takes outlet z outlet') (sym (releases_of_tells told)) released;
}

module _ {D S O : Type 0} (medium : D → Medium) (gives : Giving S) (takes : Taking O)
    (fit : ProcessImagesFitAreas) where
  pub calls_make_lives : CallsMakeLives medium gives takes
  calls_make_lives m config bytes so_far acts found one accepted
      (opened {begins = begins} {w = w} {disk = disk} {outlet = inside} {undone = undone}
      {last = last} starts calls) keeps bounded =
      let o = opening m config so_far medium takes bytes found.disk found.outlet
      (site disk inside) begins (Ok w) accepted keeps bounded starts in
      let c = calls_make medium gives takes fit acts (scene w disk found.source inside) undone last
      calls
      in (
        map Tells o.0 ++ c.0,
        exchanges_join gives takes found.source last.source found.source found.outlet last.outlet
            inside (map Tells o.0) c.0
            (told_alone gives takes found.source found.outlet inside o.0 o.1) c.1,
        λ inputs count acts_are came.
            let stage = at_beginning begins inputs in
            let heard = parts_are_foretold m config so_far so_far stage stage (map Tells o.0) c.0
            came.foretold in
            let is = o.2 inputs came.sectors came.room heard.1 in
            ends_opened m config bytes so_far inputs begins (map Tells o.0 ++ c.0) (Some w) count
            (medium found.disk) (medium last.disk) w (map Tells o.0) c.0 undone (medium disk)
            refl refl came is (c.2 m config is.guest (promised (as_begun begins so_far) is.events)
            (stage_after stage is.events)
            is.process is.opened (is.acts ∙ acts_are) (is.foretold c.0 came.foretold) is.keeps
            is.bounded),
      )
  calls_make_lives m config bytes so_far acts found one accepted
      (unopened {begins = begins} {why = why} {disk = disk} {outlet = inside} starts) keeps
      bounded =
      let o = opening m config so_far medium takes bytes found.disk found.outlet
      (site disk inside) begins (Err why) accepted keeps bounded starts in (
        map Tells o.0,
        told_alone gives takes found.source found.outlet inside o.0 o.1,
        λ inputs count acts_are came.
            ends_unopened m config bytes so_far inputs begins (map Tells o.0) None count
            (medium found.disk) (medium disk) why came refl
            (o.2 inputs came.sectors came.room came.foretold),
      )

pub anything_comes_true : AnythingComesTrue
anything_comes_true [] = tt
anything_comes_true (Asks ask ∷ exchanges) = (refl, anything_comes_true exchanges)
anything_comes_true (Tells begun ∷ exchanges) = (refl, anything_comes_true exchanges)
