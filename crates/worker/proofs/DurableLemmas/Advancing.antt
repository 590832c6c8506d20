-- Steps of a worker on its disk, up to where it stops.
use Rattle.std.proofs.Common.{◌≡◌, ℕ, suc, ◌+◌, ◌-◌, ◌<◌, ◌≤◌, List, [], length, drop, refl, sym}
use Rattle.std.proofs.Common.{ap, ◌++◌, ◌∙◌, subst, inl, ⊎_elim, arith, Some, None, Ok, Err, true}
use Rattle.std.specs.Prelude.{◌≢◌}
use Rattle.std.proofs.Math.Nat.{le-max_right}
use Rattle.std.proofs.lemmas.List.{append-nil, drop_all}
use Rattle.wasm_syntax.specs.declared.module.Module.{Module}
use Rattle.wasi_abi.specs.declared.answer.Question.{Question}
use Rattle.wasi_abi.specs.rules.Configs.{Settings}
use Rattle.process_rules.specs.Processes.{ProcessState, Ending, Guest}
use Rattle.process_rules.specs.Runs.{Kept, Moves, Runs, Reaches}
use Rattle.process_rules.specs.Behind.{Syncs}
use Rattle.process_rules.proofs.Growing.{runs_count, runs_emit, move_counts}
use Rattle.process_rules.proofs.Quiet.{quiet_runs_are_runs, runs_join}
use Rattle.process.specs.declared.fault.ProcessFault.{ProcessFault}
use Rattle.process.specs.declared.fault.ProcessFault.TheVariants as stop
use Rattle.process.specs.declared.stop.ProcessEnd.{ProcessEnd}
use Rattle.process.specs.declared.stop.Stop.TheVariants as stops
use Rattle.process.specs.rules.Values.{ProcessValue, ShowsProcess, waiting_in, ending_of}
use Rattle.process.specs.rules.Stops.{ComesQuietly, ComesOwing, AdvancesProcess}
use Rattle.record_replay.specs.rules.Calls.{Begun, all_taken}
use Rattle.record_replay.proofs.Emitted.{released_whole, waiting_behind}
use Rattle.record_replay.proofs.OnTheWay.{quiet_runs, owing_runs}
use Rattle.sector_disk.specs.rules.Medium.{Medium}
use Rattle.state_image.specs.rules.Saving.{saved_of}
use Rattle.worker_store.specs.restart_theorem.Lives.{Reply, Spent, Over, Fails, Cause, OfMemory}
use Rattle.worker_store.specs.restart_theorem.Lives.{OfBounds, Ended}
use Rattle.worker_store.specs.restart_theorem.Courses.{Stage, Open, MayFail, phase_ended}
use Rattle.worker_store.specs.restart_theorem.Courses.{next_stage}
use Rattle.worker_store.specs.restart_theorem.Promises.{Promise, fuel_of, IsEnding, synced_by}
use Rattle.worker_store.specs.restart_theorem.Holds.{StaysWithin}
use Rattle.worker_store.specs.laws.Acts.{most_held}
use Rattle.worker_store.specs.laws.Underway.{IsUnderWay}
use Rattle.worker_store.specs.laws.CallEnds.{IsSliceOver, HasBound}
use Rattle.worker_store.proofs.LawLemmas.AtHand.{shown_is_saved}
use Rattle.worker_store.proofs.LawLemmas.CallEnds.{spent_slices_end, ended_slices_end}
use Rattle.worker_store.proofs.LawLemmas.Underway.{steps_go_on}
use Rattle.worker_store.specs.rules.Carried.{count_at, SyncsAreHeld}
use Rattle.worker.specs.declared.fault.WorkFault.TheVariants.{Work}
use Rattle.worker.specs.declared.running_worker.RunningWorker.{RunningWorker}
use Rattle.record_replay.specs.rules.Refusals.{slice_fault}
use Rattle.worker.specs.rules.OpenWorkers.{IsAbreast}
use Rattle.worker.specs.DurableTurns.{Course, IsBetweenTurns, IsOwingTurn, IsAskingOn, to_tell}
use Rattle.worker.specs.DurableTurns.{TurnEnds, TurnFails, slice_end, running_on}
use Rattle.worker.proofs.AbreastLemmas.{abreast_on, abreast_now, lines_of_runs}
use Rattle.worker.proofs.AbreastLemmas.{ended_is_still, none_beyond}
use Rattle.worker.proofs.DurableLemmas.OnDisk.{keeps_now, fewer_syncs, lowered_to, stepped_to}
use Rattle.worker.proofs.DurableLemmas.OnDisk.{reached_now, valid_module, quiet_syncs}
use Rattle.worker.proofs.DurableLemmas.Bounds.{on_disk_still}
use Rattle.worker.proofs.DurableLemmas.Holding.{to_tell_on}
use Rattle.worker.proofs.DurableLemmas.Syncing.{sync_emits_none, unsynced_steps_are_held}
use Rattle.worker.proofs.DurableLemmas.Ends.{done_nothing, ends_on, failed_end, broken_open}
use Rattle.worker.proofs.DurableLemmas.Ends.{open_again, stays_on, not_open}

-- the same worker with its process further on
abbrev pub with_process : RunningWorker → ProcessValue → RunningWorker
with_process w v = record w { process = v }

-- the same, that says that no line is beyond its process
abbrev pub says_abreast : RunningWorker → RunningWorker
says_abreast w = record w { is_abreast = true }

-- ---- the end of a slice

module _ {D : Type 0} (medium : D → Medium) (c : Course) (promise : Promise) (stage : Stage)
    (p : ProcessState) (lines_held : List Begun) (w : RunningWorker) (disk : D)
    (running : IsBetweenTurns c promise stage p lines_held w (medium disk)) where
  told_steps : w.process.steps ≡ p.steps
  told_steps = let shows = running.shows in shows.steps

  -- the disk is left alone
  bounds_still : StaysWithin (promise.events + 1) (medium disk) (medium disk)
  bounds_still =
      on_disk_still medium c.code c.config c.guest promise p p.steps promise.events w.store disk
      running.on_disk (promise.events + 1) (omega arith)

  -- by an error of its process
  pub process_fails : (cause : Cause) → MayFail Open cause
      → HasBound c.code c.config c.guest promise p cause
      → TurnEnds c promise stage (Fails cause) [] w (medium disk) (medium disk)
  process_fails cause may bound =
      let is = running.on_disk in
      let told = told_steps in
      ends_on medium c promise promise stage stage [] w disk disk (Fails cause)
      (length promise.kept) (done_nothing c promise stage)
      (failed_end c promise stage p w Open (length promise.kept) cause
      (broken_open c promise stage p p.steps promise.events lines_held w (medium disk) running)
      running.shows running.module_is may bound)
      (stays_on medium c promise disk running.opened
      (keeps_now medium c.code c.config c.guest promise p p.steps promise.events w.store disk is))
      bounds_still is.point w.store.journal is.records is.pending is.last is.now is.carried
      (fewer_syncs c.code c.config promise _ p.steps (w.process.steps - 1) (omega (arith, told))
      is.syncs)
      (λ e. absurd (not_open cause e))

  module _ (none_held : length lines_held ≡ 0) (none_waits : waiting_in w.process ≡ []) where
    told_all : running.told ≡ length p.host.lines
    told_all =
        let counted = running.counted in
        let whole = released_whole w.process c.guest p running.shows none_waits in
        omega (arith, counted, whole, none_held)

    way_told : IsUnderWay c.code c.config c.guest promise stage c.act (length p.host.lines) p
    way_told = subst (λ n. IsUnderWay c.code c.config c.guest promise stage c.act n p)
        told_all running.way

    over : IsSliceOver c.code c.config c.guest promise stage c.act p (saved_of w.process)
    over = record {
      way = way_told;
      saved = shown_is_saved c.code c.config c.guest w.process p running.shows running.module_is;
    }

    -- in order
    slice_over : (reply : Reply) → synced_by reply w.process.steps ≡ w.process.steps
        → IsEnding c.code c.config promise stage (record {
          act = c.act;
          reply = reply;
          held = length promise.kept;
          shown = saved_of w.process;
        })
        → (phase_ended reply ≡ Open → IsAbreast
        (slice_end promise reply (length promise.kept) w)
        (next_stage stage (Ended c.act reply (length promise.kept) (saved_of w.process)))
        p w.is_abreast)
        → TurnEnds c promise stage reply [] w (medium disk) (medium disk)
    slice_over reply all_synced ending abreast =
        let is = running.on_disk in
        let told = told_steps in
        let below : synced_by reply w.process.steps ≤ p.steps = omega (arith, told, all_synced) in
        let way = way_told in
        ends_on medium c promise promise stage stage [] w disk disk reply
        (length promise.kept) (done_nothing c promise stage) ending
        (stays_on medium c promise disk running.opened
        (keeps_now medium c.code c.config c.guest promise p p.steps promise.events w.store disk is))
        bounds_still is.point w.store.journal is.records is.pending is.last is.now is.carried
        (fewer_syncs c.code c.config promise _ p.steps (synced_by reply w.process.steps) below
        is.syncs)
        (λ is_over replayed. (
          p,
          open_again medium c promise stage p promise.events w disk reply (length promise.kept)
              replayed running.opened running.texts running.shows running.module_is none_waits
              way.in_slice way.line way.heard way.passed running.synced (omega arith) is below
              is_over (abreast is_over),
        ))

    pub spent_ends : p.steps ≡ c.first + fuel_of c.act → p.ended ≡ None
        → TurnEnds c promise stage Spent [] w (medium disk) (medium disk)
    spent_ends all unended =
        slice_over Spent refl (spent_slices_end c.code c.config c.guest promise stage c.act p
        (saved_of w.process) over (all ∙ ap (λ n. n + fuel_of c.act) (sym running.began)) unended)
        (λ is_over. let so_far = running.abreast in
        record { none_beyond = so_far.none_beyond; says_so = so_far.says_so })

    pub over_ends : (why : Ending) → p.ended ≡ Some why → w.is_abreast ≡ true
        → TurnEnds c promise stage (Over why) [] w (medium disk) (medium disk)
    over_ends why ended says =
        slice_over (Over why) refl (ended_slices_end c.code c.config c.guest promise stage c.act p
        (saved_of w.process) why over ended)
        (λ is_over. record {
          none_beyond = λ here. none_beyond medium c.code c.config c.guest promise p p.steps
              promise.events w.store disk running.on_disk (ended_is_still c.guest p why ended);
          says_so = λ abreast. says;
        })

-- ---- steps

-- all kept answers lead also where steps without answers lead
reaches_on : (m : Module) (config : Settings) (kept : List Kept) (p q : ProcessState) (n : ℕ)
    (reached : Reaches m config kept p.steps p) → Runs reached.guest p [] n q
    → Reaches m config kept q.steps q
reaches_on m config kept p q n reached runs = record {
  guest = reached.guest;
  start = reached.start;
  begins = reached.begins;
  runs = subst (λ (l : List Kept). Runs reached.guest reached.start l q.steps q) (append-nil kept)
      (subst (λ k. Runs reached.guest reached.start (kept ++ []) k q)
      (sym (runs_count reached.guest p q [] n runs))
      (runs_join reached.guest reached.start p q kept [] p.steps n reached.runs runs));
}

module _ {D : Type 0} (medium : D → Medium) (c : Course) (promise : Promise) (stage : Stage)
    (p : ProcessState) (lines_held : List Begun) (w : RunningWorker) (v : ProcessValue) (disk : D)
    (running : IsBetweenTurns c promise stage p lines_held w (medium disk))
    (fuel_left : ℕ) (fuel_left_is : fuel_left ≡ fuel_of c.act - (w.process.steps - c.first))
    (same : v.host.released ≡ w.process.host.released)
    (same_guest : v.machine.guest ≡ w.process.machine.guest) where
  -- what was taken of the fuel, and what is left of it
  in_time : (n : ℕ) → n ≤ fuel_left → p.steps + n ≤ stage.step + fuel_of c.act
  in_time n few =
      let shows = running.shows in
      let told : w.process.steps ≡ p.steps = shows.steps in
      let way = running.way in
      let slice = way.in_slice in
      let begun : stage.step ≤ p.steps = slice.begun in
      let within : p.steps ≤ stage.step + fuel_of c.act = slice.in_time in
      let began = running.began in
      omega (arith, few, fuel_left_is, told, begun, within, began)

  way_on : (q : ProcessState) (n : ℕ) → Runs c.guest p [] n q → n ≤ fuel_left
      → IsUnderWay c.code c.config c.guest promise stage c.act running.told q
  way_on q n runs few =
      steps_go_on c.code c.config c.guest promise stage c.act running.told n p q running.way runs
      (in_time n few)

  -- no line is handed over in steps
  still_counted : running.told + length lines_held ≡ v.host.released
  still_counted = running.counted ∙ sym same

  -- lines that are emitted wait behind those that are held
  still_queued : (q : ProcessState) (n : ℕ) → Runs c.guest p [] n q → ShowsProcess v c.guest q
      → to_tell lines_held v ≡ all_taken (suc running.told) (drop running.told q.host.lines)
  still_queued q n runs shows =
      to_tell_on w.process v c.guest p q running.shows shows same (runs_emit c.guest p q [] n runs)
      lines_held running.told running.counted running.queued

  -- steps take no line back
  abreast_there : (q : ProcessState) (n : ℕ) → Runs c.guest p [] n q
      → IsAbreast promise stage q w.is_abreast
  abreast_there q n runs =
      abreast_on promise promise stage stage p q w.is_abreast
      (le-max_right (length q.host.lines) promise.begun) (lines_of_runs c.guest p q [] n runs) refl
      running.abreast

  -- steps after which nothing is owed
  pub quiet_on : (come : ComesQuietly v c.guest p) → come.steps ≤ fuel_left
      → IsBetweenTurns c promise stage come.process lines_held (with_process w v) (medium disk)
  quiet_on come few =
      let is = running.on_disk in
      let runs = quiet_runs v c.guest p come in
      let count : come.process.steps ≡ p.steps + come.steps =
      runs_count c.guest p come.process [] come.steps runs in
      let synced : promise.synced ≤ p.steps = running.synced in
      record {
        opened = running.opened;
        texts = running.texts;
        shows = come.shows;
        module_is = same_guest ∙ running.module_is;
        told = running.told;
        counted = still_counted;
        queued = still_queued come.process come.steps runs come.shows;
        way = way_on come.process come.steps runs few;
        began = running.began;
        on_disk = stepped_to medium c.code c.config c.guest promise p p.steps promise.events w.store
            disk is come.process come.steps come.process.steps runs
            (quiet_syncs medium c.code c.config c.guest promise p p.steps promise.events w.store
            disk is come.process come.steps (omega arith) come.runs);
        synced = omega (arith, synced, count);
        abreast = abreast_there come.process come.steps runs;
      }

  -- and one more, after which something is owed
  pub owing_on : (come : ComesOwing v c.guest p) → come.steps < fuel_left
      → IsOwingTurn c promise stage come.process lines_held (with_process w v) (medium disk)
  owing_on come few =
      let is = running.on_disk in
      let runs = owing_runs v c.guest p come in
      let quiet = quiet_runs_are_runs c.guest p come.before come.steps come.runs in
      let first : come.before.steps ≡ p.steps + come.steps =
      runs_count c.guest p come.before [] come.steps quiet.0 in
      let one : come.process.steps ≡ come.before.steps + 1 =
      move_counts c.guest come.before come.process None come.moves in
      let before : come.before.steps ≡ come.process.steps - 1 = omega (arith, one) in
      let synced : promise.synced ≤ p.steps = running.synced in
      record {
        opened = running.opened;
        texts = running.texts;
        shows = come.shows;
        module_is = same_guest ∙ running.module_is;
        told = running.told;
        counted = still_counted;
        queued = still_queued come.process (come.steps + 1) runs come.shows;
        way = way_on come.process (come.steps + 1) runs (omega (arith, few));
        began = running.began;
        on_disk = stepped_to medium c.code c.config c.guest promise p p.steps promise.events w.store
            disk is come.process (come.steps + 1) (come.process.steps - 1) runs
            (fewer_syncs c.code c.config promise _ come.before.steps (come.process.steps - 1)
            (omega (arith, before))
            (quiet_syncs medium c.code c.config c.guest promise p p.steps promise.events w.store
            disk is come.before come.steps (omega arith) come.runs));
        synced = omega (arith, synced, first, one);
        abreast = abreast_there come.process (come.steps + 1) runs;
      }

  -- ---- what it stops for

  -- something is owed
  pub record OwesThere : Type 0 where
    pub process : ProcessState
    pub owing : IsOwingTurn c promise stage process lines_held (with_process w v) (medium disk)

  pub advance_owes : AdvancesProcess w.process fuel_left (Ok stops.Owes) v → OwesThere
  advance_owes advances = ⊎_elim
      (λ (waits : (waiting_in w.process ≢ []) × (v ≡ w.process)).
      let is = running.on_disk in
      record {
        process = p;
        owing = record {
          opened = running.opened;
          texts = running.texts;
          shows = subst (λ z. ShowsProcess z c.guest p) (sym waits.1) running.shows;
          module_is = same_guest ∙ running.module_is;
          told = running.told;
          counted = still_counted;
          queued = subst (λ (z : ProcessValue). to_tell lines_held z
              ≡ all_taken (suc running.told) (drop running.told p.host.lines)) (sym waits.1)
              running.queued;
          way = running.way;
          began = running.began;
          on_disk = lowered_to medium c.code c.config c.guest promise p p.steps promise.events
              w.store disk is (p.steps - 1) promise.events (omega arith) (omega arith);
          synced = running.synced;
          abreast = running.abreast;
        };
      })
      (λ (k : (waiting_in w.process ≡ []) × (come : ComesOwing v c.guest p)
      × (come.steps < fuel_left)). record { process = k.1.process; owing = owing_on k.1 k.2 })
      (advances c.guest p running.shows)

  -- lines are handed over, and it goes on
  pub record HoldsThere : Type 0 where
    pub process : ProcessState
    pub between : IsBetweenTurns c promise stage process lines_held (with_process w v)
        (medium disk)

  -- a step that has emitted lines, and hasn't ended it, was no sync
  no_sync_there : (come : ComesOwing v c.guest p) → waiting_in w.process ≡ []
      → waiting_in v ≢ [] → v.ended ≡ None → Syncs c.guest come.before → ⊥
  no_sync_there come empty some alive syncs =
      let quiet = quiet_runs_are_runs c.guest p come.before come.steps come.runs in
      let shows = come.shows in
      let same_lines : come.process.host.lines ≡ p.host.lines =
      sync_emits_none c.guest come.before come.process come.moves syncs (sym shows.ended ∙ alive)
      ∙ quiet.1 in
      let all : v.host.released ≡ length p.host.lines =
      same ∙ released_whole w.process c.guest p running.shows empty in
      some (sym (waiting_behind v c.guest come.process come.shows)
      ∙ ap (λ n. drop n come.process.host.lines) all
      ∙ ap (λ z. drop (length p.host.lines) z) same_lines
      ∙ drop_all (length p.host.lines) p.host.lines (omega arith))

  -- so nothing is owed but the lines
  syncs_there : (come : ComesOwing v c.guest p) → waiting_in w.process ≡ []
      → waiting_in v ≢ [] → v.ended ≡ None
      → SyncsAreHeld c.code c.config promise.kept
      (count_at running.on_disk.point running.on_disk.records) come.process.steps
  unfolding reaches_on
  syncs_there come empty some alive =
      let is = running.on_disk in
      let by = reached_now medium c.code c.config c.guest promise p p.steps promise.events w.store
      disk is in
      let quiet = quiet_runs_are_runs c.guest p come.before come.steps come.runs in
      let runs : Runs by.reached.guest p [] come.steps come.before =
      subst (λ (g : Guest). Runs g p [] come.steps come.before) (sym by.guest_is) quiet.0 in
      unsynced_steps_are_held c.code c.config promise.kept (count_at is.point is.records)
      come.before come.process
      (valid_module medium c.code c.config c.guest promise p p.steps promise.events w.store disk is)
      (reaches_on c.code c.config promise.kept p come.before come.steps by.reached runs)
      (subst (λ (g : Guest). Moves g come.before None come.process) (sym by.guest_is) come.moves)
      (λ syncs. no_sync_there come empty some alive
      (subst (λ (g : Guest). Syncs g come.before) by.guest_is syncs))
      (quiet_syncs medium c.code c.config c.guest promise p p.steps promise.events w.store disk is
      come.before come.steps (omega arith) come.runs)

  pub advance_holds : waiting_in v ≢ [] → v.ended ≡ None
      → AdvancesProcess w.process fuel_left (Ok stops.Owes) v → HoldsThere
  advance_holds some alive advances = ⊎_elim
      (λ (waits : (waiting_in w.process ≢ []) × (v ≡ w.process)). record {
        process = p;
        between = record {
          opened = running.opened;
          texts = running.texts;
          shows = subst (λ z. ShowsProcess z c.guest p) (sym waits.1) running.shows;
          module_is = same_guest ∙ running.module_is;
          told = running.told;
          counted = still_counted;
          queued = subst (λ (z : ProcessValue). to_tell lines_held z
              ≡ all_taken (suc running.told) (drop running.told p.host.lines)) (sym waits.1)
              running.queued;
          way = running.way;
          began = running.began;
          on_disk = running.on_disk;
          synced = running.synced;
          abreast = running.abreast;
        };
      })
      (λ (k : (waiting_in w.process ≡ []) × (come : ComesOwing v c.guest p)
      × (come.steps < fuel_left)).
      let come = k.1 in
      let there = owing_on come k.2 in
      let is = running.on_disk in
      record {
        process = come.process;
        between = record {
          opened = there.opened;
          texts = there.texts;
          shows = there.shows;
          module_is = there.module_is;
          told = there.told;
          counted = there.counted;
          queued = there.queued;
          way = there.way;
          began = there.began;
          on_disk = stepped_to medium c.code c.config c.guest promise p p.steps promise.events
              w.store disk is come.process (come.steps + 1) come.process.steps
              (owing_runs v c.guest p come) (syncs_there come k.0 some alive);
          synced = there.synced;
          abreast = there.abreast;
        };
      })
      (advances c.guest p running.shows)

  -- an answer is wanted
  pub record AsksThere (question : Question) : Type 0 where
    pub process : ProcessState
    pub asking : IsAskingOn c promise stage process question promise.events
        (running_on lines_held (with_process w v) (medium disk))

  pub advance_asks : (question : Question) → length lines_held ≤ most_held c.act
      → AdvancesProcess w.process fuel_left (Ok (stops.Asks question)) v → AsksThere question
  advance_asks question held_few advances =
      let k = advances c.guest p running.shows in
      let come = k.1 in
      let less : come.steps < fuel_left = k.2 in
      let few : come.steps ≤ fuel_left = omega (arith, less) in
      let runs = quiet_runs v c.guest p come in
      let count : come.process.steps ≡ p.steps + come.steps =
      runs_count c.guest p come.process [] come.steps runs in
      let within : p.steps + (come.steps + 1) ≤ stage.step + fuel_of c.act =
      in_time (come.steps + 1) (omega (arith, less)) in
      record {
        process = come.process;
        asking = record {
          running = quiet_on come few;
          few = held_few;
          none_waits = come.none_waits;
          unended = k.3;
          wants = k.4;
          room = omega (arith, count, within);
        };
      }

  -- all its fuel
  pub spent_all : (come : ComesQuietly v c.guest p) → come.steps ≡ fuel_left
      → come.process.steps ≡ c.first + fuel_of c.act
  spent_all come all =
      let runs = quiet_runs v c.guest p come in
      let count : come.process.steps ≡ p.steps + come.steps =
      runs_count c.guest p come.process [] come.steps runs in
      let shows = running.shows in
      let told : w.process.steps ≡ p.steps = shows.steps in
      let way = running.way in
      let slice = way.in_slice in
      let begun : stage.step ≤ p.steps = slice.begun in
      let within : p.steps ≤ stage.step + fuel_of c.act = slice.in_time in
      let began = running.began in
      omega (arith, all, count, fuel_left_is, told, begun, within, began)

  -- its fuel is spent
  pub advance_spent : length lines_held ≡ 0 → AdvancesProcess w.process fuel_left (Ok stops.Spent) v
      → TurnEnds c promise stage Spent [] (with_process w v) (medium disk) (medium disk)
  advance_spent none_held advances =
      let k = advances c.guest p running.shows in
      let come = k.1 in
      let all : come.steps ≡ fuel_left = k.2 in
      let few : come.steps ≤ fuel_left = omega (arith, all) in
      spent_ends medium c promise stage come.process lines_held (with_process w v) disk
      (quiet_on come few) none_held come.none_waits (spent_all come all) k.3

  -- it has ended, and says that no line is beyond it
  pub said_abreast : (come : ComesQuietly v c.guest p) → come.steps ≤ fuel_left → (why : Ending)
      → come.process.ended ≡ Some why
      → IsBetweenTurns c promise stage come.process lines_held (says_abreast (with_process w v))
      (medium disk)
  said_abreast come few why ended =
      let there = quiet_on come few in
      record {
        opened = there.opened;
        texts = there.texts;
        shows = there.shows;
        module_is = there.module_is;
        told = there.told;
        counted = there.counted;
        queued = there.queued;
        way = there.way;
        began = there.began;
        on_disk = there.on_disk;
        synced = there.synced;
        abreast = abreast_now promise stage come.process
            (none_beyond medium c.code c.config c.guest promise come.process come.process.steps
            promise.events w.store disk there.on_disk
            (ended_is_still c.guest come.process why ended));
      }

  pub advance_over : (how : ProcessEnd) → length lines_held ≡ 0
      → AdvancesProcess w.process fuel_left
      (Ok (stops.Ended how)) v → TurnEnds c promise stage (Over (ending_of how)) []
      (says_abreast (with_process w v)) (medium disk) (medium disk)
  advance_over how none_held advances =
      let k = advances c.guest p running.shows in
      let come = k.1 in
      over_ends medium c promise stage come.process lines_held (says_abreast (with_process w v))
      disk (said_abreast come k.2 (ending_of how) k.3) none_held come.none_waits (ending_of how)
      k.3 refl

  -- it can't go on
  pub advance_fails : (why : ProcessFault) → AdvancesProcess w.process fuel_left (Err why) v
      → TurnFails c promise stage (Work (slice_fault why)) [] (with_process w v) (medium disk)
      (medium disk)
  advance_fails stop.WrongAnswer advances = absurd (advances c.guest p running.shows)
  advance_fails stop.Memory advances =
      let k = advances c.guest p running.shows in
      let come = k.1 in
      let less : come.steps < fuel_left = k.2 in
      let few : come.steps ≤ fuel_left = omega (arith, less) in (
        OfMemory,
        refl,
        process_fails medium c promise stage come.process lines_held (with_process w v) disk
            (quiet_on come few) OfMemory tt tt,
      )
  advance_fails stop.StepsSpent advances =
      let k = advances c.guest p running.shows in
      let come = k.1 in
      let less : come.steps < fuel_left = k.2 in
      let few : come.steps ≤ fuel_left = omega (arith, less) in (
        OfBounds,
        refl,
        process_fails medium c promise stage come.process lines_held (with_process w v) disk
            (quiet_on come few) OfBounds tt (inl (None, k.4)),
      )
