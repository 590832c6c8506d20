-- Why the restart theorem refuses workers that nobody wants.
use Rattle.std.proofs.Common.{◌≡◌, ◌≤◌, ℕ, ◌+◌, ◌^◌, true, List, [], ◌∷◌, length}
use Rattle.std.proofs.Common.{⊎_elim, Option, Some, refl, sym, ap, ◌∙◌, subst, arith}
use Rattle.std.proofs.lemmas.Option.{same_Some}
use Rattle.wasm_syntax.specs.declared.module.Module.{Module}
use Rattle.wasm_rules.specs.Validity.{IsValid}
use Rattle.wasi_abi.specs.rules.Configs.{Settings}
use Rattle.wasi_calls_rules.specs.WasiStates.{Line}
use Rattle.process_rules.specs.Runs.{Kept, Reaches}
use Rattle.process_rules.proofs.OneProcess.{one_process}
use Rattle.state_image.specs.rules.ProcessImage.{Saved}
use Rattle.worker_store.specs.restart_theorem.Lives.{Act, Slice, Batch, Checkpoint, Upgrade}
use Rattle.worker_store.specs.restart_theorem.Lives.{SourceSaid, Cause, OfDisk, OfSource, OfAnswer}
use Rattle.worker_store.specs.restart_theorem.Lives.{OfOutlet, OfMemory, OfBounds, OfJournal}
use Rattle.worker_store.specs.restart_theorem.Lives.{OfLines, Reply, Spent, kept_by_end, Waits}
use Rattle.worker_store.specs.restart_theorem.Lives.{Over, Done, Fails, Event, Told, Asked, Opened}
use Rattle.worker_store.specs.restart_theorem.Lives.{Ended, Beginning, Creates, End, Finished}
use Rattle.worker_store.specs.restart_theorem.Lives.{Stopped, Failed, Life, told_lines}
use Rattle.worker_store.specs.restart_theorem.Courses.{Phase, Open, NoneThere, Closed, Stage}
use Rattle.worker_store.specs.restart_theorem.Courses.{at_beginning, next_stage, stage_after}
use Rattle.worker_store.specs.restart_theorem.Courses.{phase_ended}
use Rattle.worker_store.specs.restart_theorem.Courses.{ComesAfter, IsLast, IsToldIn, IsAskedIn}
use Rattle.worker_store.specs.restart_theorem.Courses.{AreToldBy, HasLastAsked, MayFail, MayEnd}
use Rattle.worker_store.specs.restart_theorem.Promises.{Promise, after, nothing_yet, fuel_of}
use Rattle.worker_store.specs.restart_theorem.Promises.{IsKept, IsAt, promised, as_begun, MayPlead}
use Rattle.worker_store.specs.restart_theorem.Promises.{IsReply, IsOneOf}
use Rattle.worker_store.specs.restart_theorem.laws.Laws.{HaveOneText}
use Rattle.worker_store.specs.restart_theorem.laws.Refused.{in_peace, created_life, recovered_life}
use Rattle.worker_store.specs.restart_theorem.laws.Refused.{first_line, IsFromOutside, source}
use Rattle.worker_store.specs.restart_theorem.laws.Refused.{misfit, outlet, RefusedEvents}
use Rattle.worker_store.specs.restart_theorem.laws.Refused.{RefusedWorkers, creation_begun}
use Rattle.worker_store.proofs.RestartLemmas.Promised.{no_two_texts}
use Rattle.worker_store.proofs.RestartLemmas.Pleas.{fails_or_open, fails_or_last, in_order, in_vain}
use Rattle.worker_store.proofs.RestartLemmas.Abreast.{taken_at_once}

-- ---- events

module _ (m : Module) (config : Settings) (so_far : Promise) (stage : Stage) where
  closed : (cause : Cause) (e : Event) → stage.phase ≡ Closed cause
      → IsKept m config so_far stage e → ⊥
  closed cause (Told r t) is kept =
      (subst (λ (q : Phase). IsToldIn q stage.acts stage.step kept.is_line.steps) is kept.in_time).0
  closed cause (Asked steps question said fits) is kept =
      subst (λ (q : Phase). IsAskedIn q stage.acts stage.step steps) is kept.in_time
  closed cause (Opened held shown) is kept = let e = sym is ∙ kept.shut in cc
  closed cause (Ended act reply held shown) is kept = no_end act reply held shown kept.reply
    where
      kept_then : Act → Saved → List Kept
      kept_then act shown = kept_by_end act shown so_far.kept

      no_failure : (other : Cause) → MayFail stage.phase other → ⊥
      no_failure other fails = subst (λ (q : Phase). MayFail q other) is fails

      no_plea : (kept : List Kept) (act : Act) (other : Cause)
          → MayPlead config kept stage act other → ⊥
      no_plea kept (Slice fuel) other may = no_failure other may
      no_plea kept (Batch fuel most) other may =
          ⊎_elim
          (λ (fails : MayFail stage.phase other). no_failure other fails)
          (λ (asked : HasLastAsked stage.phase). subst HasLastAsked is asked)
          (fails_or_last stage.phase other may)
      no_plea kept Checkpoint other may = no_failure other may
      no_plea kept Upgrade other may =
          ⊎_elim
          (λ (fails : MayFail stage.phase other). no_failure other fails)
          (λ (opened : stage.phase ≡ Open). cc)
          (fails_or_open config kept stage other may)

      no_order : (reply : Reply) → phase_ended reply ≡ Open → (act : Act) (held : ℕ) (shown : Saved)
          → IsReply config (kept_then act shown) stage held shown act reply → ⊥
      no_order reply opens act held shown ends =
          ⊎_elim
          (λ (opened : stage.phase ≡ Open). cc)
          (λ (asked : stage.phase ≡ NoneThere shown.steps). cc)
          (in_order config (kept_then act shown) stage held shown act reply opens ends).1

      no_end : (act : Act) (reply : Reply) (held : ℕ) (shown : Saved)
          → IsReply config (kept_then act shown) stage held shown act reply → ⊥
      no_end act Spent held shown ends = no_order Spent refl act held shown ends
      no_end act Waits held shown ends = no_order Waits refl act held shown ends
      no_end act (Over why) held shown ends = no_order (Over why) refl act held shown ends
      no_end act Done held shown ends = no_order Done refl act held shown ends
      no_end act (Fails other) held shown ends = no_plea (kept_then act shown) act other
          (in_vain config (kept_then act shown) stage held shown act other ends).0

  pub within_fuel : (kept : List Kept) (act : Act) (reply : Reply) (held : ℕ) (shown : Saved)
      → IsReply config kept stage held shown act reply → shown.steps ≤ stage.step + fuel_of act
  within_fuel kept act Spent held shown is =
      (in_order config kept stage held shown act Spent refl is).0
  within_fuel kept act Waits held shown is =
      (in_order config kept stage held shown act Waits refl is).0
  within_fuel kept act (Over why) held shown is =
      (in_order config kept stage held shown act (Over why) refl is).0
  within_fuel kept act Done held shown is =
      (in_order config kept stage held shown act Done refl is).0
  within_fuel kept act (Fails cause) held shown is =
      (in_vain config kept stage held shown act cause is).1

  -- an error from outside, in a call that nobody has failed
  no_cause : (cause : Cause) → IsFromOutside cause → MayFail Open cause → ⊥
  no_cause OfSource source may = may
  no_cause OfAnswer misfit may = may
  no_cause OfOutlet outlet may = may
  no_cause OfDisk outside may = elim outside [ ]
  no_cause OfMemory outside may = elim outside [ ]
  no_cause OfBounds outside may = elim outside [ ]
  no_cause OfJournal outside may = elim outside [ ]
  no_cause OfLines outside may = elim outside [ ]

  -- nor in an upgrade
  no_outside : (kept : List Kept) (act : Act) (cause : Cause) → IsFromOutside cause
      → stage.phase ≡ Open → MayPlead config kept stage act cause → ⊥
  no_outside kept (Slice fuel) cause outside is may =
      no_cause cause outside (subst (λ (q : Phase). MayFail q cause) is may)
  no_outside kept (Batch fuel most) cause outside is may =
      no_cause cause outside
      (⊎_elim
      (λ (fails : MayFail stage.phase cause). subst (λ (q : Phase). MayFail q cause) is fails)
      (λ (asked : HasLastAsked stage.phase). absurd (subst HasLastAsked is asked))
      (fails_or_last stage.phase cause may))
  no_outside kept Checkpoint cause outside is may =
      no_cause cause outside (subst (λ (q : Phase). MayFail q cause) is may)
  no_outside kept Upgrade OfSource source is may =
      subst (λ (q : Phase). MayFail q OfSource) is may
  no_outside kept Upgrade OfAnswer misfit is may =
      subst (λ (q : Phase). MayFail q OfAnswer) is may
  no_outside kept Upgrade OfOutlet outlet is may =
      subst (λ (q : Phase). MayFail q OfOutlet) is may
  no_outside kept Upgrade OfDisk outside is may = elim outside [ ]
  no_outside kept Upgrade OfMemory outside is may = elim outside [ ]
  no_outside kept Upgrade OfBounds outside is may = elim outside [ ]
  no_outside kept Upgrade OfJournal outside is may = elim outside [ ]
  no_outside kept Upgrade OfLines outside is may = elim outside [ ]

  pub refused_events : RefusedEvents m config so_far stage
  refused_events = record {
    asks_before_it_opens = λ steps question said fits is kept.
        subst (λ (q : Phase). IsAskedIn q stage.acts stage.step steps) is kept.in_time;
    opens_twice = λ held shown is kept. (let e = kept.shut in cc);
    opens_uncreated = λ held shown is kept. (let e = kept.created in cc);
    goes_on_after_an_error = closed;
    opens_with_more_than_was_kept = λ held shown h kept.
        (let within = kept.holds.within in omega (arith, within, h));
    loses_an_answer = λ held shown h kept.
        (let enough = kept.holds.answers in omega (arith, enough, h));
    loses_a_step = λ held shown h kept.
        (let enough = kept.holds.steps_held in omega (arith, enough, h));
    opens_behind_an_unheard_line = λ held shown h kept.
        (let heard = kept.all_heard in omega (arith, heard, h));
    told_lines_beyond_its_opening = λ last held shown is h kept.
        (let same : last ≡ shown.lines =
        subst (λ (l : Option ℕ). IsLast l shown.lines) is kept.none_beyond in
        omega (arith, same, h));
    tells_line_zero = λ line t kept.
        (let one = kept.is_line.counted in omega (arith, one));
    tells_a_line_twice = λ r t is kept.
        (let next : r.number ≡ r.number + 1 =
        subst (λ (l : Option ℕ). ComesAfter l r.number) is kept.follows in
        omega (arith, next));
    skips_a_line = λ r t h kept.
        (let none = kept.none_skipped in omega (arith, none, h));
    tells_a_saved_line = λ r t h kept.
        (let passed = kept.not_passed in omega (arith, passed, h));
    ends_with_more_than_is_kept = λ act reply held shown h kept.
        (let within = kept.within in omega (arith, within, h));
    takes_back_a_step = λ act reply held shown h kept.
        (let onward = kept.onward in omega (arith, onward, h));
    runs_past_its_fuel = λ act reply held shown h kept.
        (let few = within_fuel (kept_by_end act shown so_far.kept) act reply held shown kept.reply
        in
        omega (arith, few, h));
    ends_before_its_lines = λ act cause last held shown is h kept.
        (let few : last ≤ shown.lines =
        subst (λ (l : Option ℕ). IsOneOf l shown.lines) is
        (in_vain config (kept_by_end act shown so_far.kept) stage held shown act cause
        kept.reply).2 in
        omega (arith, few, h));
    leaves_an_answer_behind = λ fuel held shown h kept.
        (let all = kept.reply.3.all_taken in omega (arith, all, h));
    leaves_a_line_untold = λ fuel last held shown is h kept.
        (let all : last ≡ shown.lines =
        same_Some last shown.lines (sym is ∙ kept.reply.3.all_told) in
        omega (arith, all, h));
    fails_without_a_cause = λ act cause held shown is outside kept.
        no_outside (kept_by_end act shown so_far.kept) act cause outside is
        (in_vain config (kept_by_end act shown so_far.kept) stage held shown act cause
        kept.reply).0;
  }

-- ---- lives

module _ (m : Module) (config : Settings) where
  shut_ends : (begins : Beginning) (says : List SourceSaid) (acts : List Act) (calls : ℕ)
      (ends : End)
      → MayEnd (in_peace says acts) 0 calls (at_beginning begins (in_peace says acts)) ends
      → ends ≡ Failed OfMemory
  shut_ends begins says acts calls Finished may = absurd (let e = may.0 in cc)
  shut_ends begins says acts calls Stopped may = absurd may.1
  shut_ends begins says acts calls (Failed OfDisk) may = absurd may.1
  shut_ends begins says acts calls (Failed OfSource) may = absurd may.0
  shut_ends begins says acts calls (Failed OfAnswer) may = absurd may.0
  shut_ends begins says acts calls (Failed OfOutlet) may = absurd may.0
  shut_ends begins says acts calls (Failed OfMemory) may = refl
  shut_ends begins says acts calls (Failed OfBounds) may = let e : 2 ^ 63 ≤ 1 = may.0 in
      absurd (omega (arith, e))
  shut_ends begins says acts calls (Failed OfJournal) may = absurd may.0
  shut_ends begins says acts calls (Failed OfLines) may = absurd may.0

  -- an open life in peace ends when all is done
  undone_ends : (act : Act) (acts : List Act) (says : List SourceSaid) (calls : ℕ) (first : Saved)
      (ends : End)
      → MayEnd (in_peace says (act ∷ acts)) 1 calls
      (next_stage (at_beginning Creates (in_peace says (act ∷ acts))) (Opened 0 first)) ends → ⊥
  undone_ends act acts says calls first Finished may = let e = may.1 in cc
  undone_ends act acts says calls first Stopped may = may.1
  undone_ends act acts says calls first (Failed cause) may = may.0

  -- no fault of the disk, and no stop, was put in
  no_fault : (says : List SourceSaid) (acts : List Act) (events calls : ℕ) (stage : Stage)
      (ends : End) → ends ≡ Failed OfDisk
      → MayEnd (in_peace says acts) events calls stage ends → ⊥
  no_fault says acts events calls stage ends is may =
      (subst (λ (x : End). MayEnd (in_peace says acts) events calls stage x) is may).1

  no_stop : (says : List SourceSaid) (acts : List Act) (events calls : ℕ) (stage : Stage)
      (ends : End) → ends ≡ Stopped
      → MayEnd (in_peace says acts) events calls stage ends → ⊥
  no_stop says acts events calls stage ends is may =
      (subst (λ (x : End). MayEnd (in_peace says acts) events calls stage x) is may).1

  same_process : (kept : List Kept) (n k : ℕ) (s t : Saved) → IsValid m → n ≡ k
      → (a : IsAt m config kept n s) → (b : IsAt m config kept k t)
      → (t.machine.memory ≡ s.machine.memory) × (t.files ≡ s.files)
      × (t.descriptors ≡ s.descriptors)
  same_process kept n k s t valid is a b =
      let reached : Reaches m config kept n b.process =
      subst (λ (i : ℕ). Reaches m config kept i b.process) (sym is) b.reached in
      let one : b.process ≡ a.process =
      one_process m config kept n b.process a.process valid reached a.reached in (
        b.shown.machine.memory ∙ ap (λ p. p.configuration.store.memory) one
            ∙ sym a.shown.machine.memory,
        b.shown.files ∙ ap (λ p. p.host.files) one ∙ sym a.shown.files,
        b.shown.descriptors ∙ ap (λ p. p.host.descriptors) one ∙ sym a.shown.descriptors,
      )

  pub refused_workers : RefusedWorkers m config
  refused_workers = record {
    shut = λ says acts begins calls ends goes.
        shut_ends begins says acts calls ends goes.0.ends;
    pleads_the_disk = λ says acts life is goes.
        no_fault says acts (promised (as_begun life.begins nothing_yet) life.events).events
        life.calls
        (stage_after (at_beginning life.begins (in_peace says acts)) life.events) life.ends is
        goes.0.ends;
    pleads_a_stop = λ says acts life is goes.
        no_stop says acts (promised (as_begun life.begins nothing_yet) life.events).events
        life.calls
        (stage_after (at_beginning life.begins (in_peace says acts)) life.events) life.ends is
        goes.0.ends;
    silent = λ inputs goes. goes;
    idle = λ inputs fuel calls ends first last some same goes.
        (let e = goes.0.kept.1.0.reply.1 in omega (arith, e, same, some));
    unasked = λ inputs fuel calls ends first last goes.
        (let e = goes.0.kept.1.0.reply.0 in cc);
    deaf = λ answer says acts steps calls question events ends first goes.
        (let e = goes.0.kept.1.0.heard in cc);
    undone = λ act acts says calls ends first goes.
        undone_ends act acts says calls first ends goes.0.ends;
    goes_on = λ inputs act cause held calls e events ends first last goes.
        closed m config (after (after creation_begun (Opened 0 first))
        (Ended act (Fails cause) held last))
        (next_stage (next_stage (at_beginning Creates inputs) (Opened 0 first))
        (Ended act (Fails cause) held last)) cause e refl goes.0.kept.1.1.0;
    other_process = λ i j calls more ends others first second rest valid none zero goes.
        same_process [] first.steps second.steps first second valid (none ∙ sym zero)
        goes.0.kept.0.at goes.1.0.kept.0.at;
    asks_early = λ inputs fuel acts p steps calls question said fits events ends first slices valid
        reached waits goes. (let asking = goes.0.kept.1.0 in
        let one : asking.process ≡ p =
        one_process m config [] steps asking.process p valid asking.reached reached in
        let count : first.lines ≡ length asking.process.host.lines =
        same_Some first.lines (length asking.process.host.lines)
        (subst (λ (l : List Act). AreToldBy l (Some first.lines) (length asking.process.host.lines))
        slices asking.all_told) in
        let same : length asking.process.host.lines ≡ length p.host.lines =
        ap (λ q. length q.host.lines) one in
        omega (arith, count, same, waits));
    two_texts = λ i j calls more ends others first text other rest valid differ goes.
        (let lives : List Life =
        created_life (Opened 0 first ∷ Told (first_line text) true ∷ []) calls ends
        ∷ recovered_life (Told (first_line other) true ∷ rest) more others ∷ [] in
        let one : HaveOneText (told_lines lives) =
        no_two_texts m config (i ∷ j ∷ []) lives valid goes in
        differ (sym (ap (λ (l : Line). l.text) (one.0.0 refl))));
    skips = λ inputs calls ends first line events goes.
        (let none = goes.0.kept.1.0.none_skipped in omega (arith, none));
    unheard = λ i j calls more held ends others first second text rest some goes.
        (let all = goes.1.0.kept.0.all_heard in omega (arith, all, some));
    lost_behind_sync = λ i j answer question fuel steps k calls more ends others first
        last second rest within behind goes.
        (let held = goes.1.0.kept.0.holds.syncs k 1 (omega (arith, within)) behind in
        omega (arith, held));
    empty_checkpoint = λ i j held less calls more ends others first last second rest fewer goes.
        (let enough = goes.1.0.kept.0.holds.answers in omega (arith, enough, fewer));
    useless_checkpoint = λ i j held calls more ends others first last text is_taken rest some goes.
        (let passed = goes.1.0.kept.0.not_passed in omega (arith, passed, some));
    recovered_from_nothing = λ inputs held calls ends shown rest goes.
        (let e = goes.0.kept.0.created in cc);
    created_again = λ i j calls more ends others first second goes.
        (let e = (goes.1.0.begins refl).0 in cc);
    created_late = λ inputs held calls ends shown rest some goes.
        (let none : held ≡ 0 = (goes.0.begins refl).1.0 in omega (arith, none, some));
    tells_when_it_is_created = λ inputs r is_taken calls ends rest goes. (goes.0.begins refl).1;
    runs_on = λ i j answer question steps calls more ends others first second r is_taken rest
        valid late goes. (let asking = goes.0.kept.1.0 in
        ⊎_elim (λ none_told. absurd cc)
        (λ last. taken_at_once m config answer steps second.steps asking.process question valid
        asking.reached asking.wants last late) goes.1.0.kept.1.0.no_further);
  }
