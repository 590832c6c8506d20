-- What a source says to a question, as an event, and what becomes of an answer.
use Rattle.std.proofs.Common.{◌≡◌, ℕ, ◌+◌, ◌-◌, ◌<◌, ◌≤◌, [], ◌∷◌, ◌++◌, length, refl, sym, ap, ◌∙◌}
use Rattle.std.proofs.Common.{subst, inl, inr, arith, Bool, true, false, Some, None, Ok, Err, List}
use Rattle.std.proofs.lemmas.List.{append-nil}
use Rattle.wasi_abi.specs.declared.answer.Question.{Question}
use Rattle.wasi_abi.specs.declared.answer.Answer.{Answer}
use Rattle.wasi_abi.specs.rules.Answers.{Fits}
use Rattle.wasi_abi.specs.rules.Versions.{text_limit}
use Rattle.wasi_calls_rules.specs.WasiStates.{WasiState}
use Rattle.process_rules.specs.Processes.{ProcessState, Guest}
use Rattle.process_rules.specs.Runs.{Given, Moves, Wants, next_of, none, take as takes_one}
use Rattle.process_rules.proofs.Growing.{move_counts, move_emits}
use Rattle.process.specs.declared.fault.ProcessFault.{ProcessFault}
use Rattle.process.specs.declared.fault.ProcessFault.TheVariants as stop
use Rattle.process.specs.rules.Values.{ProcessValue, ShowsProcess}
use Rattle.process.specs.rules.Stops.{GivesAnswer}
use Rattle.sector_disk.specs.rules.Medium.{Medium}
use Rattle.state_image.specs.rules.Saving.{saved_of}
use Rattle.disk_layout.specs.rules.Journal.{record_bytes, record_head_bytes, longest_record}
use Rattle.disk_layout.specs.rules.Journal.{payload_of}
use Rattle.wasi_abi.specs.declared.version.Version.{Version}
use Rattle.journal.specs.rules.State.{room_of}
use Rattle.journal.proofs.RecordLemmas.{record_of, length-record}
use Rattle.record_replay.specs.declared.fault.SourceFault.{SourceFault}
use Rattle.record_replay.specs.rules.Calls.{Begun}
use Rattle.record_replay.proofs.Emitted.{released_whole}
use Rattle.worker_store.specs.restart_theorem.Lives.{Fails, Waits, Cause, SourceSaid, Asked}
use Rattle.worker_store.specs.restart_theorem.Lives.{kept_of_said, OfSource, OfAnswer, OfMemory}
use Rattle.worker_store.specs.restart_theorem.Lives.{OfBounds}
use Rattle.worker_store.specs.restart_theorem.Courses.{Stage, Phase, Open, Broken, NoneThere}
use Rattle.worker_store.specs.restart_theorem.Courses.{MayFail, next_stage, first_said}
use Rattle.worker_store.specs.restart_theorem.Promises.{Promise, after, IsFitting, IsInquiring}
use Rattle.worker_store.specs.restart_theorem.Holds.{StaysWithin}
use Rattle.worker_store.specs.restart_theorem.Exchanges.{none as no_exchange, asked}
use Rattle.worker_store.specs.laws.Acts.{most_held}
use Rattle.worker_store.specs.laws.Underway.{IsUnderWay, IsBroken, IsAtQuestion, standstill}
use Rattle.worker_store.specs.laws.CallEnds.{HasBound}
use Rattle.worker_store.specs.rules.BetweenCalls.{IsForetold}
use Rattle.worker_store.specs.laws.Pieces.{AreDone}
use Rattle.worker_store.specs.rules.Carried.{count_at, IsCarried, SyncsAreHeld, AreOnRecord}
use Rattle.worker_store.specs.laws.Turns.{GoesOnFrom}
use Rattle.worker_store.proofs.RestartLemmas.Fronts.{said_widens_none}
use Rattle.worker_store.proofs.LawLemmas.AtHand.{shown_is_saved, shown_is_numbered}
use Rattle.worker_store.proofs.LawLemmas.CallEnds.{waiting_slices_end}
use Rattle.worker_store.proofs.LawLemmas.Carrying.{carried_keeps}
use Rattle.worker_store.proofs.LawLemmas.Raising.{asked_carries, append_carries}
use Rattle.worker_store.proofs.LawLemmas.Raising.{answer_is_on_record, answered_syncs_are_held}
use Rattle.worker_store.proofs.LawLemmas.TurnLemmas.{asked_still_holds, parts_leave_begun}
use Rattle.worker_store.proofs.LawLemmas.TurnLemmas.{rests_go_on, syncs_of_more}
use Rattle.worker_store.proofs.LawLemmas.Underway.{questions_are_asked, answers_go_on}
use Rattle.worker_store.proofs.LawLemmas.Underway.{answers_are_kept, other_answers_break}
use Rattle.worker_store.specs.declared.fault.StoreFault.{StoreFault}
use Rattle.worker_store.specs.declared.fault.StoreFault.TheVariants as store
use Rattle.worker_store.specs.rules.Stores.{IsStoreOf}
use Rattle.worker_store.specs.rules.Calls.{AppendFails}
use Rattle.worker_store.proofs.StoreLemmas.{append_stores}
use Rattle.worker.specs.declared.fault.WorkFault.{WorkFault}
use Rattle.worker.specs.declared.fault.WorkFault.TheVariants.{Work}
use Rattle.worker.specs.declared.running_worker.RunningWorker.{RunningWorker}
use Rattle.worker.specs.rules.WorkFaults.{fault_of_store}
use Rattle.record_replay.specs.rules.Refusals.{slice_fault}
use Rattle.worker.specs.rules.DurableCalls.{ComesOf}
use Rattle.worker.specs.rules.OpenWorkers.{IsOnDisk}
use Rattle.worker.specs.DurableTurns.{Course, IsAskingOn, HasRoom, TurnGoes, TurnEnds, TurnFails}
use Rattle.worker.specs.DurableTurns.{asks_once, TakesOnRecord, LacksRecord, IsNotTaken, IsMisfit}
use Rattle.worker.specs.DurableTurns.{identity_of, running_on}
use Rattle.worker.proofs.AbreastLemmas.{lines_of_runs}
use Rattle.worker.proofs.ShortAnswers.{short_payload}
use Rattle.worker.proofs.DurableLemmas.OnDisk.{IsReachedBy, reached_now, valid_module}
use Rattle.worker.proofs.DurableLemmas.OnDisk.{runs_there, one_version}
use Rattle.worker.proofs.DurableLemmas.Bounds.{on_disk_still}
use Rattle.worker.proofs.DurableLemmas.Holding.{to_tell_on}
use Rattle.worker.proofs.DurableLemmas.Ends.{ends_on, failed_end, open_again, not_open}

-- where a question leads
abbrev pub promise_once : Promise → ProcessState → Question → SourceSaid → Bool → Promise
promise_once promise p question said fits = after promise (Asked p.steps question said fits)

abbrev pub stage_once : Stage → ProcessState → Question → SourceSaid → Bool → Stage
stage_once stage p question said fits = next_stage stage (Asked p.steps question said fits)

too_full : (v : Version) (payload free long : ℕ) → payload ≤ text_limit v
    → longest_record v ≤ free → free < long → long ≡ record_head_bytes v + payload → ⊥
too_full v payload free long few room less is = omega (arith, few, room, less, is)

too_long : (v : Version) (payload : ℕ) → payload ≤ text_limit v → text_limit v < payload → ⊥
too_long v payload few long = omega (arith, few, long)

module _ {D : Type 0} (medium : D → Medium) (c : Course) (promise : Promise) (stage : Stage)
    (p : ProcessState) (question : Question) (lines_held : List Begun) (w : RunningWorker)
    (disk : D)
    (asking : IsAskingOn c promise stage p question (promise.events + 1)
    (running_on lines_held w (medium disk)))
    (says : w.is_abreast ≡ true) where
  pub all_told : w.process.host.released ≡ length p.host.lines
  all_told = let running = asking.running in
      released_whole w.process c.guest p running.shows asking.none_waits

  pub few_wait : length p.host.lines ≤ asking.running.told + most_held c.act
  few_wait =
      let counted = asking.running.counted in
      let all = all_told in
      let few = asking.few in
      omega (arith, counted, all, few)

  abbrev pub at_question : IsAtQuestion c.code c.config c.guest promise stage c.act p question
  at_question = let running = asking.running in record {
    told = running.told;
    way = running.way;
    few = few_wait;
    running = asking.unended;
    wants = asking.wants;
    room = asking.room;
  }

  by_answers : IsReachedBy c.code c.config c.guest promise p
  by_answers = let running = asking.running in
      reached_now medium c.code c.config c.guest promise p p.steps (promise.events + 1) w.store disk
      running.on_disk

  wants_there : next_of by_answers.reached.guest p None ≡ Wants question
  wants_there = subst (λ (g : Guest). next_of g p None ≡ Wants question) (sym by_answers.guest_is)
      asking.wants

  pub same_limit : text_limit p.host.version ≡ text_limit w.process.host.host.version
  same_limit =
      let running = asking.running in
      let shows = running.shows in
      let host = shows.host in
      ap (λ (h : WasiState). text_limit h.version) host.is

  -- the disk is left alone
  pub bounds_still : (later : ℕ) → promise.events + 1 ≤ later
      → StaysWithin later (medium disk) (medium disk)
  bounds_still later le = let running = asking.running in
      on_disk_still medium c.code c.config c.guest promise p p.steps (promise.events + 1) w.store
      disk running.on_disk later le

  -- ---- what was said

  module _ (said : SourceSaid) (fits : Bool) where
    pub done_once : IsFitting (text_limit p.host.version) question said fits
        → IsForetold stage (asks_once question said)
        → AreDone c.code c.config promise stage (asks_once question said)
        (promise_once promise p question said fits) (stage_once stage p question said fits)
    done_once fitting foretold =
        let is_first : said ≡ first_said stage.says = foretold.0 in
        let there : IsFitting (text_limit p.host.version) question (first_said stage.says) fits =
        subst (λ s. IsFitting (text_limit p.host.version) question s fits) is_first fitting in
        let inquiring = questions_are_asked c.code c.config c.guest promise stage c.act
        p question fits at_question there in
        let here : IsInquiring c.code c.config promise stage
        (record { steps = p.steps; question = question; said = said; fits = fits }) =
        subst (λ s. IsInquiring c.code c.config promise stage
        (record { steps = p.steps; question = question; said = s; fits = fits }))
        (sym is_first) inquiring in
        record {
          events = Asked p.steps question said fits ∷ [];
          are = asked no_exchange;
          kept = (here, tt);
          promised_is = refl;
          stage_is = refl;
        }

    pub syncs_once : SyncsAreHeld c.code c.config (promise.kept ++ kept_of_said said fits)
        (count_at asking.running.on_disk.point asking.running.on_disk.records) p.steps
    syncs_once =
        let running = asking.running in
        let is = running.on_disk in
        syncs_of_more c.code c.config promise.kept (kept_of_said said fits) p.steps p
        (valid_module medium c.code c.config c.guest promise p p.steps (promise.events + 1) w.store
        disk is) by_answers.reached (said_widens_none said fits p.steps)
        (count_at is.point is.records) is.syncs

    pub carried_once : IsCarried (promise_once promise p question said fits)
        asking.running.on_disk.point w.store.journal asking.running.on_disk.records
        asking.running.on_disk.pending asking.running.on_disk.last
        asking.running.on_disk.now (medium disk)
    carried_once =
        let running = asking.running in
        let is = running.on_disk in
        asked_carries medium c.code c.config promise is.point w.store.journal is.records is.pending
        is.last is.now p.steps question said fits disk is.carried running.synced syncs_once

    pub goes_once : IsFitting (text_limit p.host.version) question said fits
        → IsForetold stage (asks_once question said)
        → GoesOnFrom c.code c.config promise (promise_once promise p question said
        fits) (medium disk) (medium disk)
    goes_once fitting foretold =
        let running = asking.running in
        let is = running.on_disk in
        let begun = parts_leave_begun c.code c.config promise
        (promise_once promise p question said fits) stage (stage_once stage p question said fits)
        (asks_once question said) (done_once fitting foretold) in
        rests_go_on medium c.code c.config promise (promise_once promise p question said fits) disk
        running.opened running.opened begun.no_more
        (asked_still_holds c.code c.config promise p question said fits
        (valid_module medium c.code c.config c.guest promise p p.steps (promise.events + 1) w.store
        disk is) by_answers.reached running.synced)
        (carried_keeps medium c.code c.config (promise_once promise p question said fits) is.point
        w.store.journal is.records is.pending is.last is.now disk carried_once)

    -- the process is as it was
    module _ (w' : RunningWorker) (same : w'.process ≡ w.process)
        (fitting : IsFitting (text_limit p.host.version) question said fits)
        (foretold : IsForetold stage (asks_once question said)) where
      shows_still : ShowsProcess w'.process c.guest p
      shows_still = let running = asking.running in
          subst (λ v. ShowsProcess v c.guest p) (sym same) running.shows

      module_still : w'.process.machine.guest ≡ c.code
      module_still = let running = asking.running in
          ap (λ (v : ProcessValue). v.machine.guest) same ∙ running.module_is

      syncs_until : (steps : ℕ) → steps ≤ p.steps
          → SyncsAreHeld c.code c.config (promise.kept ++ kept_of_said said fits)
          (count_at asking.running.on_disk.point asking.running.on_disk.records) steps
      syncs_until steps le k a below behind = syncs_once k a (up_to k below) behind
        where
          up_to : (k : ℕ) → k ≤ steps → k ≤ p.steps
          up_to k below = omega (arith, below, le)

      -- the slice fails
      fails_once : (phase : Phase) (cause : Cause)
          → IsBroken c.code c.config c.guest (promise_once promise p question said fits)
          (stage_once stage p question said fits) c.act (standstill (length promise.kept) p phase)
          → MayFail phase cause
          → HasBound c.code c.config c.guest (promise_once promise p question said fits) p cause
          → TurnEnds c promise stage (Fails cause) (asks_once question said) w' (medium disk)
          (medium disk)
      fails_once phase cause broken may bound =
          let running = asking.running in
          let is = running.on_disk in
          let told : w'.process.steps ≡ p.steps = (let shows = shows_still in shows.steps) in
          ends_on medium c promise (promise_once promise p question said fits) stage
          (stage_once stage p question said fits) (asks_once question said) w' disk
          disk (Fails cause) (length promise.kept) (done_once fitting foretold)
          (failed_end c (promise_once promise p question said fits)
          (stage_once stage p question said fits) p w' phase (length promise.kept) cause broken
          shows_still module_still may bound) (goes_once fitting foretold)
          (bounds_still (promise.events + 1 + 1) (omega arith)) is.point w.store.journal is.records
          is.pending is.last is.now carried_once (syncs_until (w'.process.steps
          - 1) (omega (arith, told))) (λ e. absurd (not_open cause e))

  -- ---- no answer

  -- there is none yet
  pub waits_once : length lines_held ≡ 0 → IsForetold stage (asks_once question (Ok None))
      → TurnEnds c promise stage Waits (asks_once question (Ok None)) w (medium disk) (medium disk)
  waits_once none_held foretold =
      let running = asking.running in
      let is = running.on_disk in
      let counted = running.counted in
      let all = all_told in
      let told_all : running.told ≡ length p.host.lines = omega (arith, counted, all, none_held) in
      let way : IsUnderWay c.code c.config c.guest promise stage c.act (length p.host.lines) p =
      subst (λ n. IsUnderWay c.code c.config c.guest promise stage c.act n p) told_all running.way
      in
      let more : Promise = promise_once promise p question (Ok None) false in
      let inside : Stage = stage_once stage p question (Ok None) false in
      let none_more : more.kept ≡ promise.kept = append-nil promise.kept in
      let others = other_answers_break c.code c.config c.guest promise stage c.act p
      question at_question in
      let broken : IsBroken c.code c.config c.guest more inside c.act
      (standstill (length more.kept) p (NoneThere p.steps)) =
      subst (λ n. IsBroken c.code c.config c.guest more inside c.act
      (standstill n p (NoneThere p.steps)))
      (ap (λ l. length l) (sym none_more)) (others.none_there false) in
      let told : w.process.steps ≡ p.steps = (let shows = running.shows in shows.steps) in
      let few : promise.synced ≤ p.steps = running.synced in
      let on_disk : IsOnDisk (identity_of c) more p p.steps (promise.events + 1) w.store
      (medium disk) = record {
        point = is.point;
        same = is.same;
        records = is.records;
        pending = is.pending;
        last = is.last;
        now = is.now;
        stores = is.stores;
        carried = carried_once (Ok None) false;
        on_record = none_more ∙ is.on_record;
        n = is.n;
        runs = is.runs;
        syncs = syncs_once (Ok None) false;
        early = is.early;
      } in
      ends_on medium c promise more stage inside (asks_once question (Ok None)) w disk disk Waits
      (length more.kept) (done_once (Ok None) false tt foretold)
      (waiting_slices_end c.code c.config c.guest more inside c.act p (saved_of w.process) broken
      (shown_is_saved c.code c.config c.guest w.process p running.shows running.module_is) way.line
      asking.unended asking.room)
      (goes_once (Ok None) false tt foretold) (bounds_still (promise.events + 1 + 1) (omega arith))
      is.point w.store.journal is.records is.pending is.last is.now
      (carried_once (Ok None) false)
      (syncs_until (Ok None) false w refl tt foretold w.process.steps (omega (arith, told)))
      (λ over replayed. (
        p,
        open_again medium c more inside p (promise.events + 1) w disk Waits (length more.kept)
            replayed running.opened running.texts running.shows running.module_is asking.none_waits
            broken.in_slice way.line way.heard way.passed (omega (arith, few)) (omega arith)
            on_disk (omega (arith, told)) over
            (let so_far = running.abreast in
            record { none_beyond = so_far.none_beyond; says_so = λ abreast. says }),
      ))

  -- the source fails
  pub source_fails : (e : SourceFault) → IsForetold stage (asks_once question (Err e))
      → TurnEnds c promise stage (Fails OfSource) (asks_once question (Err e)) w (medium disk)
      (medium disk)
  source_fails e foretold =
      let others = other_answers_break c.code c.config c.guest promise stage c.act p
      question at_question in
      fails_once (Err e) false w refl tt foretold (Broken OfSource) OfSource (others.fault e false)
      refl tt

  -- ---- an answer

  module _ (a : Answer) (foretold : IsForetold stage (asks_once question (Ok (Some a)))) where
    -- it doesn't fit
    pub misfits : (step : ℕ) (why : WorkFault) (w' : RunningWorker)
        → IsMisfit w question (record_of step a) why w'
        → TurnFails c promise stage why (asks_once question (Ok (Some a))) w' (medium disk)
        (medium disk)
    misfits step why w' h =
        let others = other_answers_break c.code c.config c.guest promise stage c.act p question
        at_question in (
          OfAnswer,
          subst (λ z. ComesOf z OfAnswer) (sym h.is) (inr refl),
          fails_once (Ok (Some a)) false w' (ap (λ (r : RunningWorker). r.process) h.same)
              (λ fits. h.misfits (subst (λ n. Fits n question a) same_limit fits)) foretold
              (Broken OfAnswer) OfAnswer (others.misfit a) refl tt,
        )

    module _ (fits : Fits (text_limit p.host.version) question a) (w' : RunningWorker) where
      -- it is kept, and not taken
      kept_once : (same : w'.process ≡ w.process) (cause : Cause) → MayFail Open cause
          → HasBound c.code c.config c.guest
          (promise_once promise p question (Ok (Some a)) true) p cause
          → TurnEnds c promise stage (Fails cause) (asks_once question (Ok (Some a)))
          w' (medium disk) (medium disk)
      kept_once same cause may bound =
          fails_once (Ok (Some a)) true w' same fits foretold Open cause
          (answers_are_kept c.code c.config c.guest promise stage c.act p question a
          at_question) may bound

      -- the journal is of the version of the process, so the answer isn't too long for it
      short : length (payload_of a) ≤ text_limit w.store.journal.version
      short =
          let running = asking.running in
          subst (λ v. length (payload_of a) ≤ text_limit v)
          (sym (one_version c.code c.config c.guest promise p p.steps (promise.events + 1)
          w.store (medium disk) running.on_disk))
          (short_payload c.guest p question a asking.wants fits)

      -- no record is wanting but for memory
      lacks_by : (step : ℕ) (fault : StoreFault) → HasRoom w
          → AppendFails w.store (record_of step a) fault → w'.process ≡ w.process
          → TurnFails c promise stage (fault_of_store fault) (asks_once question (Ok (Some a))) w'
          (medium disk) (medium disk)
      lacks_by step store.Full room h same =
          let v : Version = w.store.journal.version in
          absurd (too_full v (length (payload_of a)) (room_of w.store.geometry w.store.journal)
          (length (record_bytes v (record_of step a))) short room h.1
          (length-record v (record_of step a)))
      lacks_by step store.TooLong room h same =
          absurd (too_long w.store.journal.version (length (payload_of a)) short h)
      lacks_by step store.Memory room h same = (OfMemory, refl, kept_once same OfMemory tt tt)
      lacks_by step store.Failed room failed same =
          let running = asking.running in
          let is = running.on_disk in
          let stores = is.stores in
          let works = stores.works in
          absurd (cc)
      lacks_by step store.TooBig room h same = absurd h
      lacks_by step store.Damaged room h same = absurd h
      lacks_by step (store.Layout why) room h same = absurd h
      lacks_by step (store.Disk why) room h same = absurd h

      -- the process doesn't take it
      not_taken_by : (fault : ProcessFault) → GivesAnswer w.process a (Err fault) w'.process
          → TurnFails c promise stage (Work (slice_fault fault))
          (asks_once question (Ok (Some a))) w' (medium disk) (medium disk)
      not_taken_by stop.WrongAnswer given =
          let running = asking.running in
          let h = given c.guest p running.shows in
          absurd (h.1 asking.none_waits asking.unended (question, asking.wants, fits))
      not_taken_by stop.Memory given =
          let running = asking.running in
          let h = given c.guest p running.shows in
          (OfMemory, refl, kept_once h.0 OfMemory tt tt)
      not_taken_by stop.StepsSpent given =
          let running = asking.running in
          let h = given c.guest p running.shows in
          (OfBounds, refl, kept_once h.0 OfBounds tt (inl (Some a, h.3)))

    pub lacks_record : (step : ℕ) (why : WorkFault) (w' : RunningWorker) → HasRoom w
        → LacksRecord w question (record_of step a) why w'
        → TurnFails c promise stage why (asks_once question (Ok (Some a))) w' (medium disk)
        (medium disk)
    lacks_record step why w' room h =
        subst (λ z. TurnFails c promise stage z (asks_once question (Ok (Some a))) w' (medium disk)
        (medium disk)) (sym h.is)
        (lacks_by (subst (λ n. Fits n question a) (sym same_limit) h.fits) w' step
        h.fault room h.fails h.same)

    pub not_taken : (step : ℕ) (why : WorkFault) (w' : RunningWorker)
        → IsNotTaken w question (record_of step a) why w'
        → TurnFails c promise stage why (asks_once question (Ok (Some a))) w' (medium disk)
        (medium disk)
    not_taken step why w' h =
        subst (λ z. TurnFails c promise stage z (asks_once question (Ok (Some a))) w' (medium disk)
        (medium disk)) (sym h.is)
        (not_taken_by (subst (λ n. Fits n question a) (sym same_limit) h.fits) w' h.fault h.given)

    -- ---- it is taken

    module _ (q : ProcessState) (moves : Moves c.guest p (Some a) q) (w' : RunningWorker)
        (takes : TakesOnRecord w question (record_of q.steps a) w')
        (shows : ShowsProcess w'.process c.guest q) where
      abbrev more_promise : Promise
      more_promise = promise_once promise p question (Ok (Some a)) true

      counted : q.steps ≡ p.steps + 1
      counted = move_counts c.guest p q (Some a) moves

      stored_next : IsStoreOf asking.running.on_disk.point w'.store asking.running.on_disk.records
          (asking.running.on_disk.pending ++ record_of q.steps a ∷ [])
          asking.running.on_disk.last q (medium disk)
      stored_next =
          let running = asking.running in
          let is = running.on_disk in
          subst (λ s. IsStoreOf is.point s is.records (is.pending ++ record_of q.steps a ∷ [])
          is.last q (medium disk)) (sym takes.appended)
          (append_stores medium c.code c.config is.point w.store is.records is.pending is.last
          is.now p q a is.n disk is.stores
          (runs_there medium c.code c.config c.guest promise p p.steps (promise.events + 1) w.store
          disk is)
          (subst (λ (g : Guest). Moves g p (Some a) q) (sym is.same) moves) takes.record_fits
          (shown_is_numbered c.guest w'.process q takes.some shows) takes.room)

      on_record_next : AreOnRecord more_promise asking.running.on_disk.point
          (asking.running.on_disk.records
          ++ (asking.running.on_disk.pending ++ record_of q.steps a ∷ []))
      on_record_next =
          let running = asking.running in
          let is = running.on_disk in
          answer_is_on_record c.code c.config promise is.point is.records is.pending p.steps q.steps
          question a is.on_record

      on_disk_next : IsOnDisk (identity_of c) more_promise q q.steps more_promise.events
          w'.store (medium disk)
      on_disk_next =
          let running = asking.running in
          let is = running.on_disk in
          let stores = stored_next in
          let syncs = answered_syncs_are_held c.code c.config promise.kept
          (count_at is.point is.records) p question a
          (valid_module medium c.code c.config c.guest promise p p.steps (promise.events + 1)
          w.store disk is) by_answers.reached wants_there is.syncs in
          record {
            point = is.point;
            same = is.same;
            records = is.records;
            pending = is.pending ++ record_of q.steps a ∷ [];
            last = is.last;
            now = q;
            stores = stored_next;
            carried = append_carries medium c.code c.config more_promise is.point w.store.journal
                w'.store.journal is.records is.pending (record_of q.steps a) is.last is.now q disk
                (carried_once (Ok (Some a)) true) on_record_next stores.journaled;
            on_record = on_record_next;
            n = 0;
            runs = none;
            syncs = subst (λ n. SyncsAreHeld c.code c.config more_promise.kept
                (count_at is.point is.records) n) (sym counted) syncs;
            early = is.early;
          }

      goes_taken : Fits (text_limit p.host.version) question a
          → TurnGoes c promise stage (asks_once question (Ok (Some a))) lines_held w'
          (medium disk) (medium disk)
      goes_taken fits =
          let running = asking.running in
          let few : promise.synced ≤ p.steps = running.synced in
          let one_more = counted in
          let way = answers_go_on c.code c.config c.guest promise stage c.act p q
          question a at_question moves in
          record {
            promise' = more_promise;
            stage' = stage_once stage p question (Ok (Some a)) true;
            process = q;
            done = done_once (Ok (Some a)) true fits foretold;
            onward = goes_once (Ok (Some a)) true fits foretold;
            bounded = bounds_still (promise.events + 1) (omega arith);
            running = record {
              opened = running.opened;
              texts = running.texts;
              shows = shows;
              module_is = takes.guest_same ∙ running.module_is;
              told = running.told;
              counted = running.counted ∙ sym takes.released_same;
              queued = to_tell_on w.process w'.process c.guest p q running.shows shows
                  takes.released_same (move_emits c.guest p q (Some a) moves) lines_held
                  running.told running.counted running.queued;
              way = way;
              began = running.began;
              on_disk = on_disk_next;
              synced = omega (arith, few, one_more);
              abreast = record {
                none_beyond = λ here. (
                    let so_far = running.abreast in
                    let told : promise.begun ≤ length p.host.lines = so_far.none_beyond says in
                    let grow = lines_of_runs c.guest p q (Given a ∷ []) 1 (takes_one moves none) in
                    omega (arith, told, grow));
                says_so = λ abreast. takes.abreast_same ∙ says;
              };
            };
          }

    pub taken : (step : ℕ) (w' : RunningWorker) → step ≡ p.steps + 1
        → TakesOnRecord w question (record_of step a) w'
        → TurnGoes c promise stage (asks_once question (Ok (Some a))) lines_held w' (medium disk)
        (medium disk)
    taken step w' is_next takes =
        let running = asking.running in
        let given = takes.given c.guest p running.shows in
        let by = given.1 in
        let count = move_counts c.guest p by.process (Some a) by.moves in
        let same : record_of step a ≡ record_of by.process.steps a =
        ap (λ n. record_of n a) (is_next ∙ sym count) in
        goes_taken by.process by.moves w' (subst (λ r. TakesOnRecord w question r w') same takes)
        by.shows (subst (λ n. Fits n question a) (sym same_limit) takes.fits)
