-- How far a slice has come that fails, as a worker without a disk.
use Rattle.std.proofs.Common.{◌≡◌, ◌⊎◌, ℕ, ◌≤◌, List, [], ◌∷◌, ◌++◌, refl, sym, ap, ◌∙◌, subst}
use Rattle.std.proofs.Common.{inl, inr, ⊎_elim, Bool, true, false, Option, Some, None, Ok, Err}
use Rattle.std.specs.Prelude.{Result, IfErr, ◌≢◌}
use Rattle.std.proofs.lemmas.List.{append-nil}
use Rattle.wasi_abi.specs.declared.answer.Question.{Question}
use Rattle.wasi_abi.specs.declared.answer.Question.TheVariants as questions
use Rattle.wasi_abi.specs.declared.answer.Answer.{Answer}
use Rattle.wasi_abi.specs.rules.Answers.{Fits}
use Rattle.wasi_abi.specs.rules.Versions.{text_limit}
use Rattle.wasi_calls_rules.specs.WasiStates.{WasiState, Line}
use Rattle.process_rules.specs.Processes.{ProcessState, Guest}
use Rattle.process.specs.declared.fault.ProcessFault.{ProcessFault}
use Rattle.process.specs.declared.fault.ProcessFault.TheVariants as stop
use Rattle.process.specs.rules.Values.{ProcessValue, ShowsProcess, waiting_in}
use Rattle.process.specs.rules.Stops.{GivesAnswer}
use Rattle.sector_disk.specs.declared.fault.DiskFault.{DiskFault}
use Rattle.sector_disk.specs.rules.Medium.{Medium}
use Rattle.disk_layout.specs.rules.Journal.{Record}
use Rattle.record_replay.specs.rules.Calls.{Giving, Taking, Ask, Exchange, Asks, ports}
use Rattle.worker_store.specs.restart_theorem.Lives.{SourceSaid}
use Rattle.worker_store.specs.declared.fault.StoreFault.{StoreFault}
use Rattle.worker_store.specs.declared.fault.StoreFault.TheVariants as store
use Rattle.worker_store.specs.declared.store.WorkerStore.{WorkerStore}
use Rattle.worker_store.specs.rules.Calls.{BarrierFails, AppendFails}
use Rattle.record_replay.specs.Turns.{working, failing}
use Rattle.record_replay.specs.declared.slices.fault.SliceFault.TheVariants as slice
use Rattle.record_replay.specs.rules.Faults.{IsBadAnswer, LeadsUpTo, Fails, SlicesInVain}
use Rattle.record_replay.specs.rules.Refusals.{slice_fault}
use Rattle.record_replay.proofs.Ending.{Turning, Questioning, released_some, vainly}
use Rattle.record_replay.proofs.Going.{Goes, leads, leads_to_question, asked_more}
use Rattle.record_replay.proofs.Joining.{wanted_ask}
use Rattle.worker.specs.declared.fault.WorkFault.{WorkFault}
use Rattle.worker.specs.declared.fault.WorkFault.TheVariants.{Work}
use Rattle.worker.specs.declared.running_worker.RunningWorker.{RunningWorker}
use Rattle.worker.specs.rules.WorkFaults.{fault_of_store}
use Rattle.worker.specs.rules.DurableFailures.{StopsAtDisk, StopsAtStore, StopsAtQuestion}
use Rattle.worker.specs.rules.DurableFailures.{StopsForMemory, IsDiskCause, SlicesOnDiskInVain}
use Rattle.worker.specs.DurableTurns.{IsFlushFault, IsAskFault, Hears}
use Rattle.worker.specs.DurableTurns.{HearsBy, IsMisfit, LacksRecord, IsNotTaken}

-- ---- faults

pub same_fault : (a b : WorkFault) → ◌≡◌ {A = Result Bool WorkFault} (Err a) (Err b) → a ≡ b
same_fault a b e = cc

-- a barrier wants no memory, and no number
pub no_memory : (before : WorkerStore) (old new : Medium) (fault : StoreFault)
    → BarrierFails before old new fault → fault ≢ store.Memory
no_memory before old new fault fails is = subst (λ f. BarrierFails before old new f) is fails

pub no_number : (before : WorkerStore) (old new : Medium) (fault : StoreFault)
    → BarrierFails before old new fault → fault ≢ store.TooBig
no_number before old new fault fails is = subst (λ f. BarrierFails before old new f) is fails

-- where a store fails
module _ (guest : Guest) (p : ProcessState) (fuel : ℕ) (exchanges : List Exchange) (steps : ℕ)
    (q : ProcessState) (within : steps ≤ fuel) where
  store_cause : StopsAtStore guest p exchanges steps q → (fault : StoreFault)
      → ((f : DiskFault) → fault ≡ store.Disk f → StopsAtDisk guest p exchanges steps q)
      → (fault ≡ store.TooBig → StopsAtQuestion guest p fuel exchanges steps q)
      → (fault ≡ store.Memory → StopsForMemory guest p fuel exchanges steps q)
      → IsDiskCause guest p fuel exchanges steps q (fault_of_store fault)
  store_cause stops (store.Disk f) disk big memory = (within, disk f refl)
  store_cause stops store.Memory disk big memory = memory refl
  store_cause stops store.TooBig disk big memory = big refl
  store_cause stops store.Failed disk big memory = (within, stops)
  store_cause stops store.Full disk big memory = (within, stops)
  store_cause stops store.TooLong disk big memory = (within, stops)
  store_cause stops store.Damaged disk big memory = (within, stops)
  store_cause stops (store.Layout why) disk big memory = (within, stops)

  -- where its disk is wanted
  pub disk_cause_of : StopsAtDisk guest p exchanges steps q → (fault : StoreFault)
      → (fault ≡ store.TooBig → StopsAtQuestion guest p fuel exchanges steps q)
      → (fault ≡ store.Memory → StopsForMemory guest p fuel exchanges steps q)
      → IsDiskCause guest p fuel exchanges steps q (fault_of_store fault)
  disk_cause_of stops fault big memory =
      store_cause (inl stops) fault (λ f is. stops) big memory

module _ {S O : Type 0} (gives : Giving S) (takes : Taking O) where
  -- what fails as without a disk
  pub as_on_disk : (old new : ProcessValue) (fuel : ℕ) (why : ProcessFault) (s u : S) (o q : O)
      → SlicesInVain gives takes (working old) fuel (slice_fault why) (failing new) (ports s o)
      (ports u q)
      → SlicesOnDiskInVain gives takes old fuel (Work (slice_fault why)) new (ports s o)
      (ports u q)
  as_on_disk old new fuel stop.WrongAnswer s u o q h guest p shows = h.2 guest p shows
  as_on_disk old new fuel stop.StepsSpent s u o q h guest p shows = h.2 guest p shows
  as_on_disk old new fuel stop.Memory s u o q h guest p shows =
      let did = h.2 guest p shows in
      let cause = did.1 in
      (did.0, (cause.0, cause.1, inl cause.2, cause.3, cause.4))

  -- ---- what is owed

  module _ (old v : ProcessValue) (fuel first : ℕ) (s t : S) (o q : O)
      (turning : Turning gives takes old v fuel first s t o q) where
    abbrev pub gone : (guest : Guest) (p : ProcessState) → ShowsProcess old guest p
        → Goes gives takes old v fuel guest p s t o q
    gone guest p shows = turning.goes guest p shows

    -- all lines were told
    pub up_to_now : (guest : Guest) (p : ProcessState) (shows : ShowsProcess old guest p)
        → waiting_in v ≡ []
        → LeadsUpTo guest p (gone guest p shows).exchanges (gone guest p shows).steps
        (gone guest p shows).process None
    up_to_now guest p shows empty =
        let g = gone guest p shows in
        record {
          front = g.exchanges;
          question = questions.Realtime;
          is = sym (append-nil g.exchanges);
          leads = leads gives takes old v v fuel guest p s t o q g empty;
          answered = g.answered;
        }

    stops_by : (guest : Guest) (p : ProcessState) (shows : ShowsProcess old guest p)
        (lines : List Line) → waiting_in v ≡ lines
        → StopsAtDisk guest p (gone guest p shows).exchanges (gone guest p shows).steps
        (gone guest p shows).process
    stops_by guest p shows [] is = inr (up_to_now guest p shows is)
    stops_by guest p shows (line ∷ lines) is =
        let g = gone guest p shows in
        inl (waiting_in v, g.last (λ none. absurd (cc)))

    -- it is as it was
    abbrev pub stays_at : (guest : Guest) (p : ProcessState) → ShowsProcess old guest p
        → Fails gives takes (working old) (failing v) guest p (ports s o) (ports t q)
    stays_at guest p shows = record {
      exchanges = (gone guest p shows).exchanges;
      exchanged = (gone guest p shows).exchanged;
      wanted = (gone guest p shows).wanted;
      steps = (gone guest p shows).steps;
      process = (gone guest p shows).process;
      shows = (gone guest p shows).shows;
    }

    stored_vainly : (fault : StoreFault) → fault ≢ store.Memory → fault ≢ store.TooBig
        → SlicesOnDiskInVain gives takes old fuel (fault_of_store fault) v (ports s o)
        (ports t q)
    stored_vainly fault none fits guest p shows =
        let g = gone guest p shows in (
          stays_at guest p shows,
          disk_cause_of guest p fuel g.exchanges g.steps g.process g.within
              (stops_by guest p shows (waiting_in v) refl) fault (λ is. absurd (fits is))
              (λ is. absurd (none is)),
        )

    pub flushed_vainly : (why : WorkFault) (new : ProcessValue) (r : O)
        → IsFlushFault takes v why new q r
        → SlicesOnDiskInVain gives takes old fuel why new (ports s o) (ports t r)
    flushed_vainly why new r (inl stored) =
        subst (λ z. SlicesOnDiskInVain gives takes old fuel why z (ports s o) (ports t r))
        (sym stored.4)
        (subst (λ z. SlicesOnDiskInVain gives takes old fuel why v (ports s o) (ports t z))
        (sym stored.5)
        (subst (λ z. SlicesOnDiskInVain gives takes old fuel z v (ports s o) (ports t q))
        (sym stored.1) (stored_vainly stored.0 stored.2 stored.3)))
    flushed_vainly why new r (inr refused) =
        subst (λ z. SlicesOnDiskInVain gives takes old fuel z new (ports s o) (ports t r))
        (sym refused.0)
        (told_vainly (released_some gives takes old v new fuel first s t o q r turning refused.1))
      where
        told_vainly : SlicesInVain gives takes (working old) fuel slice.Outlet (failing new)
            (ports s o) (ports t r)
            → SlicesOnDiskInVain gives takes old fuel (Work slice.Outlet) new (ports s o)
            (ports t r)
        told_vainly h guest p shows = h.2 guest p shows

  -- ---- what is asked

  module _ (old v : ProcessValue) (fuel first : ℕ) (s t : S) (o q : O) (question : Question)
      (questioning : Questioning gives takes old v fuel first s t o q question) where
    abbrev pub so_far : (guest : Guest) (p : ProcessState) → ShowsProcess old guest p
        → Goes gives takes old v fuel guest p s t o q
    so_far guest p shows = questioning.turning.goes guest p shows

    -- it may be memory for the answer
    pub memory_for : (guest : Guest) (p : ProcessState) (shows : ShowsProcess old guest p)
        (exchanges : List Exchange) (given : Option Answer)
        → LeadsUpTo guest p exchanges (so_far guest p shows).steps (so_far guest p shows).process
        given
        → StopsForMemory guest p fuel exchanges (so_far guest p shows).steps
        (so_far guest p shows).process
    memory_for guest p shows exchanges given up = (
      questioning.less guest p shows,
      questioning.running guest p shows,
      inr (question, questioning.wants guest p shows),
      given,
      up,
    )

    -- the source isn't asked
    room_vainly : (fault : StoreFault)
        → SlicesOnDiskInVain gives takes old fuel (fault_of_store fault) v (ports s o)
        (ports t q)
    room_vainly fault guest p shows =
        let g = so_far guest p shows in
        let up = up_to_now old v fuel first s t o q questioning.turning guest p shows
        questioning.empty in (
          stays_at old v fuel first s t o q questioning.turning guest p shows,
          disk_cause_of guest p fuel g.exchanges g.steps g.process g.within (inr up) fault
              (λ is. (
                questioning.less guest p shows,
                questioning.running guest p shows,
                question,
                questioning.wants guest p shows,
                up,
              ))
              (λ is. memory_for guest p shows g.exchanges None up),
        )

    -- it is asked
    module _ (u : S) (said : SourceSaid) (asked : gives t question said u) (new : ProcessValue)
        (same : new ≡ v) where
      abbrev pub this_ask : Ask
      this_ask = record { question = question; said = said }

      abbrev pub asks_here : (guest : Guest) (p : ProcessState) → ShowsProcess old guest p
          → Fails gives takes (working old) (failing new) guest p (ports s o) (ports u q)
      asks_here guest p shows = record {
        exchanges = (so_far guest p shows).exchanges ++ (Asks this_ask ∷ []);
        exchanged = asked_more gives takes old v v fuel guest p s t o q (so_far guest p shows) u
            this_ask asked;
        wanted = wanted_ask guest p (so_far guest p shows).exchanges this_ask
            (so_far guest p shows).wanted
            (leads_to_question gives takes old v v fuel guest p s t o q (so_far guest p shows)
            question questioning.empty (questioning.running guest p shows)
            (questioning.wants guest p shows));
        steps = (so_far guest p shows).steps;
        process = (so_far guest p shows).process;
        shows = subst (λ z. ShowsProcess z guest (so_far guest p shows).process) (sym same)
            (so_far guest p shows).shows;
      }

      bad_vainly : ((guest : Guest) (p : ProcessState) (shows : ShowsProcess old guest p)
          → IsBadAnswer (text_limit (so_far guest p shows).process.host.version) question said)
          → SlicesOnDiskInVain gives takes old fuel (Work slice.Source) new (ports s o)
          (ports u q)
      bad_vainly bad guest p shows = (
        asks_here guest p shows,
        (
          questioning.less guest p shows,
          record {
            front = (so_far guest p shows).exchanges;
            ask = this_ask;
            is = refl;
            leads = leads gives takes old v v fuel guest p s t o q (so_far guest p shows)
                questioning.empty;
            bad = bad guest p shows;
          },
        ),
      )

      pub up_to_answer : (a : Answer) → said ≡ Ok (Some a)
          → (guest : Guest) (p : ProcessState) (shows : ShowsProcess old guest p)
          → LeadsUpTo guest p ((so_far guest p shows).exchanges ++ (Asks this_ask ∷ []))
          (so_far guest p shows).steps (so_far guest p shows).process (Some a)
      up_to_answer a is guest p shows = record {
        front = (so_far guest p shows).exchanges;
        question = question;
        is = ap (λ (z : SourceSaid). (so_far guest p shows).exchanges
            ++ (Asks (record { question = question; said = z }) ∷ [])) is;
        leads = leads gives takes old v v fuel guest p s t o q (so_far guest p shows)
            questioning.empty;
        answered = (so_far guest p shows).answered;
      }

      -- its answer isn't kept
      kept_vainly : (a : Answer) → said ≡ Ok (Some a) → (from : WorkerStore) (r : Record)
          (fault : StoreFault) → AppendFails from r fault
          → SlicesOnDiskInVain gives takes old fuel (fault_of_store fault) new (ports s o)
          (ports u q)
      kept_vainly a is from r fault fails guest p shows =
          let g = so_far guest p shows in
          let calls : List Exchange = g.exchanges ++ (Asks this_ask ∷ []) in
          let up = up_to_answer a is guest p shows in (
            asks_here guest p shows,
            store_cause guest p fuel calls g.steps g.process g.within (inr (a, up)) fault
                (λ f none. absurd (subst (λ x. AppendFails from r x) none fails))
                (λ none. absurd (subst (λ x. AppendFails from r x) none fails))
                (λ none. memory_for guest p shows calls (Some a) up),
          )

    module _ (mid new : RunningWorker) (step : ℕ) (u : S) (why : WorkFault)
        (same : mid.process ≡ v) where
      same_limit : (guest : Guest) (p : ProcessState) (shows : ShowsProcess old guest p)
          → text_limit (so_far guest p shows).process.host.version
          ≡ text_limit mid.process.host.host.version
      same_limit guest p shows =
          let g = so_far guest p shows in
          let shown = g.shows in
          let host = shown.host in
          ap (λ (h : WasiState). text_limit h.version) host.is
          ∙ ap (λ (x : ProcessValue). text_limit x.host.host.version) (sym same)

      misfit_vainly : (a : Answer) → gives t question (Ok (Some a)) u
          → IsMisfit mid question (record { step = step; answer = a }) why new
          → SlicesOnDiskInVain gives takes old fuel why new.process (ports s o) (ports u q)
      misfit_vainly a asked h =
          subst (λ z. SlicesOnDiskInVain gives takes old fuel z new.process (ports s o)
          (ports u q)) (sym h.is) (bad_vainly u (Ok (Some a)) asked new.process
          (ap (λ (w : RunningWorker). w.process) h.same ∙ same)
          (λ guest p shows fits. h.misfits (subst (λ n. Fits n question a)
          (same_limit guest p shows) fits)))

      unkept_vainly : (a : Answer) → gives t question (Ok (Some a)) u
          → LacksRecord mid question (record { step = step; answer = a }) why new
          → SlicesOnDiskInVain gives takes old fuel why new.process (ports s o) (ports u q)
      unkept_vainly a asked h =
          subst (λ z. SlicesOnDiskInVain gives takes old fuel z new.process (ports s o)
          (ports u q)) (sym h.is)
          (kept_vainly u (Ok (Some a)) asked new.process (h.same ∙ same) a refl
          mid.store (record { step = step; answer = a }) h.fault h.fails)

      untaken_vainly : (a : Answer) → gives t question (Ok (Some a)) u
          → IsNotTaken mid question (record { step = step; answer = a }) why new
          → SlicesOnDiskInVain gives takes old fuel why new.process (ports s o) (ports u q)
      untaken_vainly a asked h =
          subst (λ z. SlicesOnDiskInVain gives takes old fuel z new.process (ports s o)
          (ports u q)) (sym h.is) (as_on_disk old new.process fuel h.fault s u o q
          (vainly gives takes old v new.process fuel first s t u o q question questioning
          (slice_fault h.fault) (record {
            said = Ok (Some a);
            asked = asked;
            answers = (
              Err h.fault,
              subst (λ z. GivesAnswer z a (Err h.fault) new.process) same h.given,
              refl,
            );
          })))

      heard_vainly : (said : SourceSaid) → gives t question said u
          → HearsBy mid question step said (Err why) new
          → SlicesOnDiskInVain gives takes old fuel why new.process (ports s o) (ports u q)
      heard_vainly (Err e) asked h =
          subst (λ z. SlicesOnDiskInVain gives takes old fuel z new.process (ports s o)
          (ports u q)) (sym (same_fault why (Work slice.Source) h.0))
          (bad_vainly u (Err e) asked new.process (ap (λ (w : RunningWorker). w.process) h.1 ∙ same)
          (λ guest p shows. tt))
      heard_vainly (Ok None) asked h = absurd (let no_error = h.0 in cc)
      heard_vainly (Ok (Some a)) asked h = ⊎_elim
          (λ (misfits : IsMisfit mid question (record { step = step; answer = a }) why new).
          misfit_vainly a asked misfits)
          (λ (rest : LacksRecord mid question (record { step = step; answer = a }) why new
          ⊎ IsNotTaken mid question (record { step = step; answer = a }) why new).
          ⊎_elim
          (λ (lacks : LacksRecord mid question (record { step = step; answer = a }) why new).
          unkept_vainly a asked lacks)
          (λ (none : IsNotTaken mid question (record { step = step; answer = a }) why new).
          untaken_vainly a asked none)
          rest) h

    pub asked_vainly : (from new : RunningWorker) (why : WorkFault) (u : S) → from.process ≡ v
        → IsAskFault gives from question why new t u
        → SlicesOnDiskInVain gives takes old fuel why new.process (ports s o) (ports u q)
    asked_vainly from new why u at (inl stored) =
        let by = stored.0 in
        subst (λ z. SlicesOnDiskInVain gives takes old fuel why z (ports s o) (ports u q))
        (sym (stored.1 ∙ at))
        (subst (λ z. SlicesOnDiskInVain gives takes old fuel why v (ports s o) (ports z q))
        (sym stored.2)
        (subst (λ z. SlicesOnDiskInVain gives takes old fuel z v (ports s o) (ports t q))
        (sym by.1) (room_vainly by.0)))
    asked_vainly from new why u at (inr heard) =
        let hears = heard.3 in
        heard_vainly heard.0 new heard.1 u why (heard.2 ∙ at) hears.said hears.asked hears.hears

-- what was said is why it fails
pub hears_in_vain : {S : Type 0} (gives : Giving S) (old mid new : RunningWorker)
    (question : Question) (step : ℕ) (result : Result Bool WorkFault) (source source' : S)
    → mid.process ≡ old.process → Hears gives mid question step result new source source'
    → IfErr result (λ why. IsAskFault gives old question why new source source')
hears_in_vain gives old mid new question step (Ok b) source source' same h = tt
hears_in_vain gives old mid new question step (Err why) source source' same h =
    inr (mid, step, same, h)

pub not_both : (b : Bool) → b ≡ true → b ≡ false → ⊥
not_both b set unset = absurd (cc)
