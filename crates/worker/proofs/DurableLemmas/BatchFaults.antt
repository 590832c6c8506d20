-- How far a batch has come that fails, as a slice whose lines go to a list.
use Rattle.std.proofs.Common.{◌≡◌, ℕ, suc, ◌+◌, ◌<◌, ◌≤◌, List, [], ◌∷◌, ◌++◌, length, refl}
use Rattle.std.proofs.Common.{sym, ap, ◌∙◌, subst, arith, inl, inr, false, Some, None, Ok, Err}
use Rattle.std.proofs.Common.{append_assoc}
use Rattle.std.specs.Prelude.{Result, ◌≢◌}
use Rattle.std.proofs.lemmas.List.{append-nil, map-append}
use Rattle.wasi_abi.specs.declared.answer.Answer.{Answer}
use Rattle.wasi_abi.specs.declared.answer.Question.{Question}
use Rattle.wasi_abi.specs.declared.answer.Question.TheVariants as questions
use Rattle.process_rules.specs.Processes.{ProcessState, Guest}
use Rattle.process.specs.declared.fault.ProcessFault.{ProcessFault}
use Rattle.process.specs.declared.fault.ProcessFault.TheVariants as stop
use Rattle.process.specs.rules.Values.{ProcessValue, ShowsProcess, waiting_in}
use Rattle.process.specs.rules.Stops.{GivesAnswer, GivesFor}
use Rattle.sector_disk.specs.rules.Medium.{Medium}
use Rattle.record_replay.specs.declared.line_list.NumberedLine.{NumberedLine}
use Rattle.record_replay.specs.rules.Calls.{Giving, Taking, Begun, Exchange, Asks, Releases}
use Rattle.record_replay.specs.rules.Calls.{all_taken, ports}
use Rattle.record_replay.specs.rules.Waiting.{first_waiting}
use Rattle.record_replay.proofs.Following.{lines_in_order}
use Rattle.worker_store.specs.restart_theorem.Lives.{SourceSaid}
use Rattle.worker_store.specs.declared.fault.StoreFault.{StoreFault}
use Rattle.worker_store.specs.declared.fault.StoreFault.TheVariants as store
use Rattle.worker_store.specs.declared.store.WorkerStore.{WorkerStore}
use Rattle.worker_store.specs.rules.Calls.{AppendFails, BarrierFails}
use Rattle.record_replay.specs.declared.slices.now.Now.{Now}
use Rattle.record_replay.specs.declared.slices.fault.SliceFault.TheVariants as slice
use Rattle.record_replay.specs.rules.Slices.{SliceLeadsTo}
use Rattle.record_replay.specs.rules.Faults.{LeadsUpTo, Fails}
use Rattle.record_replay.specs.rules.Refusals.{slice_fault}
use Rattle.record_replay.specs.Turns.{working, failing}
use Rattle.record_replay.proofs.Ending.{Turning, Questioning}
use Rattle.record_replay.proofs.Going.{Goes, told_more, told_wanted, told_answered, told_runs}
use Rattle.record_replay.proofs.Going.{told_releases, told_count, leads}
use Rattle.record_replay.proofs.Joining.{tells}
use Rattle.worker.specs.declared.fault.WorkFault.{WorkFault}
use Rattle.worker.specs.declared.fault.WorkFault.TheVariants.{Work}
use Rattle.worker.specs.declared.running_worker.RunningWorker.{RunningWorker}
use Rattle.worker.specs.rules.Batches.{keeping, taking, ToldUpTo, StopsBatch, IsBatchCause}
use Rattle.worker.specs.rules.Batches.{BatchFails, HasUntakenAnswer}
use Rattle.disk_layout.specs.rules.Journal.{Record}
use Rattle.worker.specs.rules.DurableFailures.{IsDiskCause, StopsForMemory}
use Rattle.worker.specs.rules.WorkFaults.{fault_of_store}
use Rattle.worker.specs.DurableTurns.{to_tell, IsAskFault, HearsBy, HasRoom, HoldsNoLine}
use Rattle.worker.specs.BatchTurns.{held_as_begun, IsBarrierFault, RefusesOne, TellsVainly}
use Rattle.worker.specs.BatchTurns.{StopsInBatch}
use Rattle.worker.proofs.DurableLemmas.InVain.{disk_cause_of, up_to_now, stays_at, memory_for}
use Rattle.worker.proofs.DurableLemmas.InVain.{asks_here, up_to_answer, same_fault}
use Rattle.worker.proofs.DurableLemmas.Queueing.{numbered_all, keep_all, taken_all, stops_plain}
use Rattle.worker.proofs.DurableLemmas.Queueing.{told_by_store, told_unkept, told_untaken}
use Rattle.worker.proofs.DurableLemmas.Queueing.{told_to_one, told_whole, cause_by}

-- ---- why a barrier fails

pub barrier_is : (kept : WorkerStore) (disk disk' : Medium) (fault : StoreFault)
    → BarrierFails kept disk disk' fault → IsBarrierFault kept fault
barrier_is kept disk disk' (store.Disk f) fails = tt
barrier_is kept disk disk' store.Full fails = tt
barrier_is kept disk disk' store.Failed fails = fails
barrier_is kept disk disk' store.Memory fails = absurd fails
barrier_is kept disk disk' store.TooBig fails = absurd fails
barrier_is kept disk disk' store.TooLong fails = absurd fails
barrier_is kept disk disk' store.Damaged fails = absurd fails
barrier_is kept disk disk' (store.Layout f) fails = absurd fails

-- all lines are in the list
plain_cause : (fuel : ℕ) (guest : Guest) (p : ProcessState) (made : List Exchange) (n : ℕ)
    (q : ProcessState) (kept : WorkerStore) (fault : StoreFault) → n ≤ fuel
    → LeadsUpTo guest p made n q None → StopsBatch guest p made n q → IsBarrierFault kept fault
    → IsBatchCause guest p fuel made n q (fault_of_store fault)
plain_cause fuel guest p made n q kept (store.Disk f) within up stops is = (within, stops)
plain_cause fuel guest p made n q kept store.Full within up stops is = (within, inr stops)
plain_cause fuel guest p made n q kept store.Failed within up stops is =
    (within, inl (inr up))
plain_cause fuel guest p made n q kept store.Memory within up stops is = absurd is
plain_cause fuel guest p made n q kept store.TooBig within up stops is = absurd is
plain_cause fuel guest p made n q kept store.TooLong within up stops is = absurd is
plain_cause fuel guest p made n q kept store.Damaged within up stops is = absurd is
plain_cause fuel guest p made n q kept (store.Layout f) within up stops is = absurd is

-- one question more may have ended it; the store hadn't failed
last_cause : (fuel : ℕ) (guest : Guest) (p : ProcessState) (made : List Exchange) (n : ℕ)
    (q : ProcessState) (kept : WorkerStore) (fault : StoreFault) → n ≤ fuel
    → StopsBatch guest p made n q → kept.journal.has_failed ≡ false → IsBarrierFault kept fault
    → IsBatchCause guest p fuel made n q (fault_of_store fault)
last_cause fuel guest p made n q kept (store.Disk f) within stops works is = (within, stops)
last_cause fuel guest p made n q kept store.Full within stops works is = (within, inr stops)
last_cause fuel guest p made n q kept store.Failed within stops works is = absurd (cc)
last_cause fuel guest p made n q kept store.Memory within stops works is = absurd is
last_cause fuel guest p made n q kept store.TooBig within stops works is = absurd is
last_cause fuel guest p made n q kept store.TooLong within stops works is = absurd is
last_cause fuel guest p made n q kept store.Damaged within stops works is = absurd is
last_cause fuel guest p made n q kept (store.Layout f) within stops works is = absurd is

-- an answer isn't kept
unkept_cause : (fuel : ℕ) (guest : Guest) (p : ProcessState) (made : List Exchange) (n : ℕ)
    (q : ProcessState) (kept : WorkerStore) (r : Record) (fault : StoreFault)
    → AppendFails kept r fault → n ≤ fuel → (a : Answer) → LeadsUpTo guest p made n q (Some a)
    → StopsForMemory guest p fuel made n q
    → IsBatchCause guest p fuel made n q (fault_of_store fault)
unkept_cause fuel guest p made n q kept r store.Memory fails within a up memory = memory
unkept_cause fuel guest p made n q kept r store.Failed fails within a up memory =
    (within, inr (a, up))
unkept_cause fuel guest p made n q kept r store.Full fails within a up memory =
    (within, inl (inr (a, up)))
unkept_cause fuel guest p made n q kept r store.TooLong fails within a up memory =
    (within, inr (a, up))
unkept_cause fuel guest p made n q kept r store.TooBig fails within a up memory = absurd fails
unkept_cause fuel guest p made n q kept r store.Damaged fails within a up memory = absurd fails
unkept_cause fuel guest p made n q kept r (store.Disk f) fails within a up memory = absurd fails
unkept_cause fuel guest p made n q kept r (store.Layout f) fails within a up memory = absurd fails

-- or isn't taken
untaken_cause : (fuel : ℕ) (guest : Guest) (p : ProcessState) (made : List Exchange) (n : ℕ)
    (q : ProcessState) (v new : ProcessValue) (a : Answer) (fault : ProcessFault)
    → ◌≢◌ {A = WorkFault} (Work (slice_fault fault)) (Work slice.Source) → n < fuel
    → q.ended ≡ None → LeadsUpTo guest p made n q (Some a) → StopsForMemory guest p fuel made n q
    → GivesFor v new guest q a (Err fault)
    → IsBatchCause guest p fuel made n q (Work (slice_fault fault))
untaken_cause fuel guest p made n q v new a stop.WrongAnswer other less running up memory given =
    absurd (other refl)
untaken_cause fuel guest p made n q v new a stop.Memory other less running up memory given = memory
untaken_cause fuel guest p made n q v new a stop.StepsSpent other less running up memory given =
    (less, running, Some a, up, given.3)

module _ {S O : Type 0} (gives : Giving S) (takes : Taking O) where
  -- ---- lines aren't told

  module _ (old : ProcessValue) (w : RunningWorker) (new : ProcessValue) (fuel first : ℕ) (s t : S)
      (o q r : O) (told kept lines : List NumberedLine) (kept_is : kept ≡ told ++ lines)
      (turning : Turning gives keeping old w.process fuel first s t [] kept)
      (released : Releases takes o (held_as_begun told) q) where
    abbrev v : ProcessValue
    v = w.process

    abbrev more : List NumberedLine
    more = numbered_all (first_waiting v) (waiting_in v)

    abbrev begun : List Begun
    begun = all_taken (first_waiting v) (waiting_in v)

    abbrev gone : (guest : Guest) (p : ProcessState) → ShowsProcess old guest p
        → Goes gives keeping old v fuel guest p s t [] kept
    gone guest p shows = turning.goes guest p shows

    abbrev made : (guest : Guest) (p : ProcessState) → ShowsProcess old guest p → List Exchange
    made guest p shows = (gone guest p shows).exchanges ++ tells begun

    all_led : (guest : Guest) (p : ProcessState) (shows : ShowsProcess old guest p)
        → SliceLeadsTo guest p (made guest p shows) (gone guest p shows).steps
        (gone guest p shows).process
    all_led guest p shows =
        let g = gone guest p shows in
        let number : first_waiting v ≡ suc (length p.host.lines) + length g.lines =
        (let count = told_count gives keeping old v v fuel guest p s t [] kept g in omega arith) in
        record {
          runs = told_runs gives keeping old v v fuel guest p s t [] kept g begun;
          lines = g.lines ++ waiting_in v;
          emitted = g.emitted;
          released = told_releases gives keeping old v v fuel guest p s t [] kept g begun
              ∙ ap (λ z. all_taken (suc (length p.host.lines)) g.lines
              ++ all_taken z (waiting_in v)) number
              ∙ sym (lines_in_order (suc (length p.host.lines)) g.lines (waiting_in v));
        }

    abbrev all_kept : (guest : Guest) (p : ProcessState) → ShowsProcess old guest p → new ≡ v
        → Fails gives keeping (working old) (failing new) guest p (ports s [])
        (ports t (kept ++ more))
    all_kept guest p shows same = record {
      exchanges = made guest p shows;
      exchanged = told_more gives keeping old v v fuel guest p s t [] kept (gone guest p shows)
          begun (kept ++ more) (keep_all (first_waiting v) (waiting_in v) kept);
      wanted = told_wanted gives keeping old v v fuel guest p s t [] kept (gone guest p shows)
          begun;
      steps = (gone guest p shows).steps;
      process = (gone guest p shows).process;
      shows = subst (λ z. ShowsProcess z guest (gone guest p shows).process) (sym same)
          (gone guest p shows).shows;
    }

    all_stops : (guest : Guest) (p : ProcessState) (shows : ShowsProcess old guest p)
        → StopsBatch guest p (made guest p shows) (gone guest p shows).steps
        (gone guest p shows).process
    all_stops guest p shows =
        stops_plain guest p (made guest p shows) (gone guest p shows).steps
        (gone guest p shows).process (all_led guest p shows)
        (told_answered gives keeping old v v fuel guest p s t [] kept (gone guest p shows) begun)

    all_up_to : (guest : Guest) (p : ProcessState) (shows : ShowsProcess old guest p)
        → LeadsUpTo guest p (made guest p shows) (gone guest p shows).steps
        (gone guest p shows).process None
    all_up_to guest p shows = record {
      front = made guest p shows;
      question = questions.Realtime;
      is = sym (append-nil (made guest p shows));
      leads = all_led guest p shows;
      answered = told_answered gives keeping old v v fuel guest p s t [] kept (gone guest p shows)
          begun;
    }

    all_are : kept ++ more ≡ told ++ (lines ++ more)
    all_are = ap (λ z. z ++ more) kept_is ∙ append_assoc told lines more

    rest_are : to_tell (held_as_begun lines) v ≡ held_as_begun (lines ++ more)
    rest_are = sym (map-append taking lines more
        ∙ ap (λ z. held_as_begun lines ++ z) (taken_all (first_waiting v) (waiting_in v)))

    abbrev left_so : (guest : Guest) (p : ProcessState) → ShowsProcess old guest p → Type 0
    left_so guest p shows = HasUntakenAnswer guest p (made guest p shows) (gone guest p shows).steps
        (gone guest p shows).process

    pub untold_so : (why : WorkFault) → TellsVainly takes (held_as_begun lines) w why new q r
        → BatchFails gives takes old fuel why new (ports s o) (ports t r)
    untold_so why (inl h) guest p shows =
        let g = gone guest p shows in (
          kept ++ more,
          all_kept guest p shows h.3,
          subst (λ z. ToldUpTo takes (left_so guest p shows) z (held_as_begun (kept ++ more)) o r)
              (sym h.1)
              (subst (λ z. ToldUpTo takes (left_so guest p shows) (fault_of_store h.0)
              (held_as_begun (kept ++ more)) o z) (sym h.4)
              (subst (λ z. ToldUpTo takes (left_so guest p shows) (fault_of_store h.0)
              (held_as_begun z) o q) (sym all_are)
              (told_by_store takes (left_so guest p shows) o q told (lines ++ more) released w.store
              h.0 h.2))),
          subst (λ z. IsBatchCause guest p fuel (made guest p shows) g.steps g.process z)
              (sym h.1)
              (plain_cause fuel guest p (made guest p shows) g.steps g.process w.store h.0 g.within
              (all_up_to guest p shows) (all_stops guest p shows) h.2),
        )
    untold_so why (inr h) guest p shows =
        let g = gone guest p shows in (
          kept ++ more,
          all_kept guest p shows h.1,
          subst (λ z. ToldUpTo takes (left_so guest p shows) z (held_as_begun (kept ++ more)) o r)
              (sym h.0)
              (subst (λ z. ToldUpTo takes (left_so guest p shows) (Work slice.Outlet)
              (held_as_begun z) o r) (sym all_are)
              (told_to_one takes (left_so guest p shows) o q told (lines ++ more) released r
              (subst (λ z. RefusesOne takes z q r) rest_are h.2))),
          subst (λ z. IsBatchCause guest p fuel (made guest p shows) g.steps g.process z)
              (sym h.0) (g.within, all_stops guest p shows),
        )

  -- ---- a question that fails it

  module _ (old : ProcessValue) (w w' : RunningWorker) (fuel first : ℕ) (s t u : S) (o q : O)
      (question : Question) (told kept lines : List NumberedLine) (kept_is : kept ≡ told ++ lines)
      (questioning : Questioning gives keeping old w.process fuel first s t [] kept question)
      (released : Releases takes o (held_as_begun told) q) where
    abbrev led : (guest : Guest) (p : ProcessState) → ShowsProcess old guest p
        → Goes gives keeping old w.process fuel guest p s t [] kept
    led guest p shows = questioning.turning.goes guest p shows

    one_shown : ShowsProcess w.process questioning.turning.some.guest
        (questioning.turning.goes questioning.turning.some.guest questioning.turning.some.process
        questioning.turning.some.shows).process
    one_shown = (questioning.turning.goes questioning.turning.some.guest
        questioning.turning.some.process questioning.turning.some.shows).shows

    refused_same : (v : ProcessValue) (a : Answer) (fault : ProcessFault) (z : ProcessValue)
        → v ≡ w.process → GivesAnswer v a (Err fault) z → z ≡ v
    refused_same v a stop.WrongAnswer z at h =
        let shown = subst (λ x. ShowsProcess x questioning.turning.some.guest
        (questioning.turning.goes questioning.turning.some.guest questioning.turning.some.process
        questioning.turning.some.shows).process) (sym at) one_shown in
        (h _ _ shown).0
    refused_same v a stop.Memory z at h =
        let shown = subst (λ x. ShowsProcess x questioning.turning.some.guest
        (questioning.turning.goes questioning.turning.some.guest questioning.turning.some.process
        questioning.turning.some.shows).process) (sym at) one_shown in
        (h _ _ shown).0
    refused_same v a stop.StepsSpent z at h =
        let shown = subst (λ x. ShowsProcess x questioning.turning.some.guest
        (questioning.turning.goes questioning.turning.some.guest questioning.turning.some.process
        questioning.turning.some.shows).process) (sym at) one_shown in
        (h _ _ shown).0

    store_no_outlet : (fault : StoreFault) → fault_of_store fault ≢ Work slice.Outlet
    store_no_outlet (store.Disk f) e = absurd (cc)
    store_no_outlet store.Memory e = absurd (cc)
    store_no_outlet store.Failed e = absurd (cc)
    store_no_outlet store.Full e = absurd (cc)
    store_no_outlet store.TooLong e = absurd (cc)
    store_no_outlet store.TooBig e = absurd (cc)
    store_no_outlet store.Damaged e = absurd (cc)
    store_no_outlet (store.Layout f) e = absurd (cc)

    -- there is an answer, which the process hasn't taken
    module _ (a : Answer) (asked : gives t question (Ok (Some a)) u) (new : ProcessValue)
        (same : new ≡ w.process) where
      abbrev calls : (guest : Guest) (p : ProcessState) → ShowsProcess old guest p → List Exchange
      calls guest p shows = (led guest p shows).exchanges
          ++ (Asks (record { question = question; said = Ok (Some a) }) ∷ [])

      up : (guest : Guest) (p : ProcessState) (shows : ShowsProcess old guest p)
          → LeadsUpTo guest p (calls guest p shows) (led guest p shows).steps
          (led guest p shows).process (Some a)
      up guest p shows =
          up_to_answer gives keeping old w.process fuel first s t [] kept question questioning u
          (Ok (Some a)) asked new same a refl guest p shows

      for_memory : (guest : Guest) (p : ProcessState) (shows : ShowsProcess old guest p)
          → StopsForMemory guest p fuel (calls guest p shows) (led guest p shows).steps
          (led guest p shows).process
      for_memory guest p shows =
          memory_for gives keeping old w.process fuel first s t [] kept question questioning guest p
          shows (calls guest p shows) (Some a) (up guest p shows)

      fails_with : (why : WorkFault)
          → ((guest : Guest) (p : ProcessState) (shows : ShowsProcess old guest p)
          → ToldUpTo takes (HasUntakenAnswer guest p (calls guest p shows)
          (led guest p shows).steps (led guest p shows).process) why (held_as_begun (told ++ lines))
          o q
          × IsBatchCause guest p fuel (calls guest p shows) (led guest p shows).steps
          (led guest p shows).process why)
          → BatchFails gives takes old fuel why new (ports s o) (ports u q)
      fails_with why so guest p shows = (
        kept,
        asks_here gives keeping old w.process fuel first s t [] kept question questioning u
            (Ok (Some a)) asked new same guest p shows,
        subst (λ z. ToldUpTo takes (HasUntakenAnswer guest p (calls guest p shows)
            (led guest p shows).steps (led guest p shows).process) why (held_as_begun z) o q)
            (sym kept_is) (so guest p shows).0,
        (so guest p shows).1,
      )

      -- it isn't kept
      unkept_so : (from : WorkerStore) (r : Record) (fault : StoreFault) → AppendFails from r fault
          → BatchFails gives takes old fuel (fault_of_store fault) new (ports s o) (ports u q)
      unkept_so from r fault fails = fails_with (fault_of_store fault) (λ guest p shows. (
        told_unkept takes (HasUntakenAnswer guest p (calls guest p shows) (led guest p shows).steps
            (led guest p shows).process) o q told lines released from r fault fails
            (a, up guest p shows),
        unkept_cause fuel guest p (calls guest p shows) (led guest p shows).steps
            (led guest p shows).process from r fault fails (led guest p shows).within a
            (up guest p shows) (for_memory guest p shows),
      ))

      -- it isn't taken
      untaken_so : (fault : ProcessFault)
          → ◌≢◌ {A = WorkFault} (Work (slice_fault fault)) (Work slice.Source)
          → GivesAnswer w.process a (Err fault) new
          → BatchFails gives takes old fuel (Work (slice_fault fault)) new (ports s o)
          (ports u q)
      untaken_so fault other given = fails_with (Work (slice_fault fault)) (λ guest p shows. (
        told_untaken takes (HasUntakenAnswer guest p (calls guest p shows)
            (led guest p shows).steps (led guest p shows).process) o q told lines released fault
            other (a, up guest p shows),
        untaken_cause fuel guest p (calls guest p shows) (led guest p shows).steps
            (led guest p shows).process w.process new a fault other (questioning.less guest p shows)
            (questioning.running guest p shows) (up guest p shows) (for_memory guest p shows)
            (given guest (led guest p shows).process (led guest p shows).shows),
      ))

    heard_so : (mid : RunningWorker) (step : ℕ) (said : SourceSaid) (why : WorkFault)
        → why ≢ Work slice.Source → mid.process ≡ w.process → gives t question said u
        → HearsBy mid question step said (Err why) w'
        → BatchFails gives takes old fuel why w'.process (ports s o) (ports u q)
    heard_so mid step (Err e) why other at asked h =
        absurd (other (same_fault why (Work slice.Source) h.0))
    heard_so mid step (Ok None) why other at asked h = absurd (let no_error = h.0 in cc)
    heard_so mid step (Ok (Some a)) why other at asked (inl h) = absurd (other h.is)
    heard_so mid step (Ok (Some a)) why other at asked (inr (inl h)) =
        subst (λ z. BatchFails gives takes old fuel z w'.process (ports s o) (ports u q))
        (sym h.is) (unkept_so a asked w'.process (h.same ∙ at) mid.store
        (record { step = step; answer = a }) h.fault h.fails)
    heard_so mid step (Ok (Some a)) why other at asked (inr (inr h)) =
        let same = refused_same mid.process a h.fault w'.process at h.given in
        subst (λ z. BatchFails gives takes old fuel z w'.process (ports s o) (ports u q))
        (sym h.is) (untaken_so a asked w'.process (same ∙ at) h.fault (λ e. other (h.is ∙ e))
        (subst (λ z. GivesAnswer z a (Err h.fault) w'.process) at h.given))

    -- no line is held where room is lacking
    all_told : HoldsNoLine (held_as_begun lines) w → (HasRoom w → ⊥)
        → Releases takes o (held_as_begun kept) q
    all_told (inl none) lacks =
        subst (λ z. Releases takes o z q)
        (sym (ap (λ z. held_as_begun z) kept_is ∙ map-append taking told lines
        ∙ ap (λ z. held_as_begun told ++ z) none ∙ append-nil (held_as_begun told))) released
    all_told (inr room) lacks = absurd (lacks room)

    pub asked_so : (why : WorkFault) → why ≢ Work slice.Source
        → HoldsNoLine (held_as_begun lines) w → IsAskFault gives w question why w' t u
        → BatchFails gives takes old fuel why w'.process (ports s o) (ports u q)
    asked_so why other free (inl stored) =
        let by = stored.0 in
        let no_outlet : why ≢ Work slice.Outlet = λ e. store_no_outlet by.0 (sym by.1 ∙ e) in
        subst (λ z. BatchFails gives takes old fuel why z (ports s o) (ports u q))
        (sym stored.1)
        (subst (λ x. BatchFails gives takes old fuel why w.process (ports s o) (ports x q))
        (sym stored.2) (λ guest p shows.
        let g = led guest p shows in
        let here = up_to_now gives keeping old w.process fuel first s t [] kept questioning.turning
        guest p shows questioning.empty in (
          kept,
          stays_at gives keeping old w.process fuel first s t [] kept questioning.turning guest p
              shows,
          told_whole takes (HasUntakenAnswer guest p g.exchanges g.steps g.process)
              (held_as_begun kept) o q (all_told free stored.3) why no_outlet,
          cause_by fuel guest p g.exchanges g.steps g.process why
              (λ f is. stops_plain guest p g.exchanges g.steps g.process
              (leads gives keeping old w.process w.process fuel guest p s t [] kept g
              questioning.empty) g.answered)
              no_outlet
              (subst (λ z. IsDiskCause guest p fuel g.exchanges g.steps g.process z) (sym by.1)
              (disk_cause_of guest p fuel g.exchanges g.steps g.process g.within (inr here) by.0
              (λ is. (
                questioning.less guest p shows,
                questioning.running guest p shows,
                question,
                questioning.wants guest p shows,
                here,
              ))
              (λ is. memory_for gives keeping old w.process fuel first s t [] kept question
              questioning guest p shows g.exchanges None here))),
        )))
    asked_so why other free (inr heard) =
        let hears = heard.3 in
        heard_so heard.0 heard.1 hears.said why other heard.2 hears.asked hears.hears

    -- ---- where the source has failed it

    heard_same : (mid : RunningWorker) (step : ℕ) (said : SourceSaid) (why : WorkFault)
        → mid.process ≡ w.process → HearsBy mid question step said (Err why) w'
        → w'.process ≡ mid.process
    heard_same mid step (Err e) why at h = ap (λ (k : RunningWorker). k.process) h.1
    heard_same mid step (Ok None) why at h = ap (λ (k : RunningWorker). k.process) h.1
    heard_same mid step (Ok (Some a)) why at (inl h) = ap (λ (k : RunningWorker). k.process) h.same
    heard_same mid step (Ok (Some a)) why at (inr (inl h)) = h.same
    heard_same mid step (Ok (Some a)) why at (inr (inr h)) =
        refused_same mid.process a h.fault w'.process at h.given

    -- no line waits then
    pub still_empty : (why : WorkFault) → IsAskFault gives w question why w' t u
        → waiting_in w'.process ≡ []
    still_empty why (inl stored) = ap waiting_in stored.1 ∙ questioning.empty
    still_empty why (inr heard) =
        let hears = heard.3 in
        ap waiting_in (heard_same heard.0 heard.1 hears.said why heard.2 hears.hears ∙ heard.2)
        ∙ questioning.empty

  -- ---- lines that are left aren't told

  pub untold_rest : (old : ProcessValue) (w : RunningWorker) (new : ProcessValue) (fuel : ℕ)
      (s t : S) (o q r : O) (told lines : List NumberedLine) (result : Result Now WorkFault)
      → StopsInBatch gives old fuel result w.process s t (told ++ lines)
      → w.store.journal.has_failed ≡ false → Releases takes o (held_as_begun told) q
      → (why : WorkFault)
      → TellsVainly takes (held_as_begun lines) w why new q r
      → BatchFails gives takes old fuel why new (ports s o) (ports t r)
  untold_rest old w new fuel s t o q r told lines result stop works released why (inl h) guest p
      shows =
      let k = stop.shown guest p shows in
      let did = k.0 in
      let stopped = k.1 in (
        told ++ lines,
        record {
          exchanges = did.exchanges;
          exchanged = did.exchanged;
          wanted = did.wanted;
          steps = did.steps;
          process = did.process;
          shows = subst (λ z. ShowsProcess z guest did.process) (sym h.3) did.shows;
        },
        subst (λ z. ToldUpTo takes (HasUntakenAnswer guest p did.exchanges did.steps did.process) z
            (held_as_begun (told ++ lines)) o r) (sym h.1)
            (subst (λ z. ToldUpTo takes (HasUntakenAnswer guest p did.exchanges did.steps
            did.process) (fault_of_store h.0) (held_as_begun (told ++ lines)) o z) (sym h.4)
            (told_by_store takes (HasUntakenAnswer guest p did.exchanges did.steps did.process) o q
            told lines released w.store h.0 h.2)),
        subst (λ z. IsBatchCause guest p fuel did.exchanges did.steps did.process z) (sym h.1)
            (last_cause fuel guest p did.exchanges did.steps did.process w.store h.0 stopped.0
            stopped.1 works h.2),
      )
  untold_rest old w new fuel s t o q r told lines result stop works released why (inr h) guest p
      shows =
      let k = stop.shown guest p shows in
      let did = k.0 in
      let only : to_tell (held_as_begun lines) w.process ≡ held_as_begun lines =
      ap (λ z. held_as_begun lines ++ all_taken (first_waiting w.process) z) stop.none_waits
      ∙ append-nil (held_as_begun lines) in (
        told ++ lines,
        record {
          exchanges = did.exchanges;
          exchanged = did.exchanged;
          wanted = did.wanted;
          steps = did.steps;
          process = did.process;
          shows = subst (λ z. ShowsProcess z guest did.process) (sym h.1) did.shows;
        },
        subst (λ z. ToldUpTo takes (HasUntakenAnswer guest p did.exchanges did.steps did.process) z
            (held_as_begun (told ++ lines)) o r) (sym h.0)
            (told_to_one takes (HasUntakenAnswer guest p did.exchanges did.steps did.process) o q
            told lines released r
            (subst (λ z. RefusesOne takes z q r) only h.2)),
        subst (λ z. IsBatchCause guest p fuel did.exchanges did.steps did.process z) (sym h.0)
            k.1,
      )
