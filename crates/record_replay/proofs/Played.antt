-- What records have led to, one after another.
use Rattle.std.proofs.Common.{◌≡◌, inl, inr, ℕ, suc, ◌+◌, ◌<◌, ◌≤◌, List, [], ◌∷◌, ◌++◌}
use Rattle.std.proofs.Common.{length, take, drop, get_or, Some, Ok, Err, refl, sym, ◌∙◌, ap}
use Rattle.std.proofs.Common.{subst, arith, append_assoc, length-append}
use Rattle.std.proofs.lemmas.List.{take_more}
use Rattle.std.proofs.Math.Seq.{drop-append_seam, split_at}
use Rattle.wasi_calls_rules.specs.laws.Laws.{Emits}
use Rattle.disk_layout.specs.declared.record.Record.{Record}
use Rattle.process_rules.specs.Processes.{ProcessState, Guest}
use Rattle.process_rules.specs.Runs.{none as no_step}
use Rattle.process_rules.proofs.Growing.{emits_on, move_counts, move_emits, runs_count, runs_emit}
use Rattle.process.specs.declared.fault.ProcessFault.{ProcessFault}
use Rattle.process.specs.declared.fault.ProcessFault.TheVariants as stop
use Rattle.process.specs.rules.Values.{ProcessValue, ShowsProcess, IsProcess, waiting_in}
use Rattle.process.specs.rules.Stops.{IsBeyond, TakesAnswer, GivesAnswer}
use Rattle.record_replay.specs.rules.Calls.{Taking, Releases, all_taken, last_refused}
use Rattle.record_replay.specs.rules.Waiting.{ReleasesAll, ReleasesSome}
use Rattle.record_replay.specs.rules.Records.{Recorded, none}
use Rattle.record_replay.specs.rules.Replays.{TellsFrom, RefusesFrom, ReplaysTo, Replays}
use Rattle.record_replay.specs.rules.Replays.{steps_before, ReplaysUpTo, Diverges, WantsMemory}
use Rattle.record_replay.specs.rules.Replays.{ReplaysInVain}
use Rattle.record_replay.specs.Plays.{replay_fault, RunsOnward, RunsToStep}
use Rattle.record_replay.specs.declared.fault.ReplayFault.{ReplayFault}
use Rattle.record_replay.specs.declared.fault.ReplayFault.TheVariants as fault
use Rattle.record_replay.proofs.Emitted.{lines_on, released_few, released_whole, released_none}
use Rattle.record_replay.proofs.Emitted.{tells_waiting, refuses_waiting, tells_more, refuses_more}
use Rattle.record_replay.proofs.Recordings.{recorded_emit, recorded_count, recorded_join}
use Rattle.record_replay.proofs.Recordings.{recorded_once, refused_fits_nowhere}
use Rattle.record_replay.proofs.Playing.{due_at, onward_few, up_to}

module _ {O : Type 0} (takes : Taking O) (v w x : ProcessValue) (entry : Record) (o o' : O)
    (done : RunsToStep takes entry.step v w o o') where
  abbrev on : (guest : Guest) (p : ProcessState) → ShowsProcess v guest p
      → RunsOnward takes v w guest p o o'
  on guest p shows = done.shown guest p shows

  here : (guest : Guest) (p : ProcessState) (shows : ShowsProcess v guest p)
      → suc (on guest p shows).process.steps ≡ entry.step
  here guest p shows =
      let next = done.next in
      let shown = (on guest p shows).shows.steps in
      omega arith

  number : (guest : Guest) (p : ProcessState) (shows : ShowsProcess v guest p)
      → suc (p.steps + (on guest p shows).steps) ≡ entry.step
  number guest p shows =
      let g = on guest p shows in
      let counted = runs_count guest p g.process [] g.steps g.runs in
      let next = here guest p shows in
      omega arith

  abbrev replays_up_to : (guest : Guest) (p : ProcessState) (shows : ShowsProcess v guest p)
      → ReplaysUpTo guest p (entry ∷ [])
  replays_up_to guest p shows =
      let g = on guest p shows in
      let next = number guest p shows in
      up_to guest p g.process g.steps entry g.runs (omega arith)

  pub given_in_vain : (why : ProcessFault) → GivesAnswer w entry.answer (Err why) x
      → ReplaysInVain takes v (entry ∷ []) (replay_fault why) o o'
  given_in_vain stop.WrongAnswer gives guest p shows =
      let g = on guest p shows in
      let refused = gives guest g.process g.shows in (
        replays_up_to guest p shows,
        (
          g.told,
          inl (refused_fits_nowhere guest p g.process g.steps entry g.runs
              (λ r moves. refused.1 done.none_waits moves.running moves.wanted)
              (number guest p shows)),
        ),
      )
  given_in_vain stop.Memory gives guest p shows =
      let g = on guest p shows in
      let refused = gives guest g.process g.shows in
      let next = here guest p shows in
      (replays_up_to guest p shows, (g.told, (refused.2, omega arith, refused.3)))
  given_in_vain stop.StepsSpent gives guest p shows =
      let g = on guest p shows in
      let refused = gives guest g.process g.shows in
      let next = here guest p shows in (
        replays_up_to guest p shows,
        (
          g.told,
          inr (
            refused.2,
            omega arith,
            subst (λ z. IsBeyond guest g.process z) (sym (due_at g.process entry next)) refused.3,
          ),
        ),
      )

  module _ (gives : GivesAnswer w entry.answer (Ok tt) x)
      (same : x.host.released ≡ w.host.released) (y : ProcessValue) (o'' : O) where
    abbrev taken : (guest : Guest) (p : ProcessState) (shows : ShowsProcess v guest p)
        → TakesAnswer x guest (on guest p shows).process entry.answer
    taken guest p shows =
        (gives guest (on guest p shows).process (on guest p shows).shows).1

    recorded : (guest : Guest) (p : ProcessState) (shows : ShowsProcess v guest p)
        → Recorded guest p (entry ∷ []) (taken guest p shows).process
    recorded guest p shows =
        let g = on guest p shows in
        let t = taken guest p shows in
        let counted = move_counts guest g.process t.process (Some entry.answer) t.moves in
        let next = here guest p shows in
        recorded_once guest p g.process t.process g.steps entry g.runs t.moves (omega arith)

    few : (guest : Guest) (p : ProcessState) (shows : ShowsProcess v guest p)
        → v.host.released ≤ length (on guest p shows).process.host.lines
    few guest p shows = onward_few takes v w guest p o o' shows (on guest p shows)

    emitted : (guest : Guest) (p : ProcessState) (shows : ShowsProcess v guest p)
        → (taken guest p shows).process.host.lines
        ≡ (on guest p shows).process.host.lines ++ waiting_in x
    emitted guest p shows =
        let g = on guest p shows in
        let t = taken guest p shows in
        lines_on w.host x.host g.process.host t.process.host g.shows.host t.shows.host
        (move_emits guest g.process t.process (Some entry.answer) t.moves) done.none_waits same

    first_number : (guest : Guest) (p : ProcessState) (shows : ShowsProcess v guest p)
        → x.host.released ≡ length (on guest p shows).process.host.lines
    first_number guest p shows =
        let g = on guest p shows in
        same ∙ released_whole w guest g.process g.shows done.none_waits

    pub played : ReleasesAll takes x y o' o'' → Replays takes v (entry ∷ []) y o o''
    played all = record {
      none_waits = released_none takes x y o' o'' all;
      shown = λ guest p shows.
          let g = on guest p shows in
          let t = taken guest p shows in
          let told : Releases takes o'
          (all_taken (suc (length g.process.host.lines)) (waiting_in x)) o'' =
          subst (λ z. Releases takes o' (all_taken (suc z) (waiting_in x)) o'')
          (first_number guest p shows) all.told in
          record {
            process = t.process;
            recorded = recorded guest p shows;
            shows = all.released.shows guest t.process t.shows;
            told = tells_more takes v.host.released g.process t.process (waiting_in x) o o' o''
                (few guest p shows) (emitted guest p shows) g.told told;
          };
    }

    pub told_in_vain : ReleasesSome takes x y o' o''
        → ReplaysInVain takes v (entry ∷ []) fault.Outlet o o''
    told_in_vain some guest p shows =
        let g = on guest p shows in
        let t = taken guest p shows in
        let refused : Releases takes o'
        (last_refused (suc (length g.process.host.lines)) some.told some.line) o'' =
        subst (λ z. Releases takes o' (last_refused (suc z) some.told some.line) o'')
        (first_number guest p shows) some.refused in (
          record {
            front = entry ∷ [];
            rest = [];
            are = refl;
            reached = t.process;
            recorded = recorded guest p shows;
            steps = 0;
            process = t.process;
            runs = no_step;
            within = omega arith;
          },
          refuses_more takes v.host.released g.process t.process (waiting_in x) o o' o''
              (few guest p shows) (emitted guest p shows) g.told some.told some.line some.others
              some.waiting refused,
        )

-- ---- before the first record

module _ {O : Type 0} (takes : Taking O) (v w : ProcessValue) (o o' : O) where
  pub begins : ReleasesAll takes v w o o' → Replays takes v [] w o o'
  begins all = record {
    none_waits = released_none takes v w o o' all;
    shown = λ guest p shows. record {
      process = p;
      recorded = none;
      shows = all.released.shows guest p shows;
      told = tells_waiting takes v w guest p o o' shows all;
    };
  }

  pub begins_in_vain : (records : List Record) → ReleasesSome takes v w o o'
      → ReplaysInVain takes v records fault.Outlet o o'
  begins_in_vain records some guest p shows = (
    record {
      front = [];
      rest = records;
      are = refl;
      reached = p;
      recorded = none;
      steps = 0;
      process = p;
      runs = no_step;
      within = omega arith;
    },
    refuses_waiting takes v w guest p o o' shows some,
  )

-- ---- further records

steps_before_more : (p : ProcessState) (rest others : List Record) (n : ℕ)
    → n ≤ steps_before p rest → n ≤ steps_before p (rest ++ others)
steps_before_more p [] others n few = let none : n ≡ 0 = omega (arith, few) in omega (arith, none)
steps_before_more p (next ∷ rest) others n few = few

diverges_more : (guest : Guest) (reached : ProcessState) (rest others : List Record)
    (q : ProcessState) → Diverges guest reached rest q → Diverges guest reached (rest ++ others) q
diverges_more guest reached [] others q h = absurd h
diverges_more guest reached (next ∷ rest) others q h = h

wants_more : (guest : Guest) (rest others : List Record) (q : ProcessState)
    → WantsMemory guest rest q → WantsMemory guest (rest ++ others) q
wants_more guest [] others q h = absurd h
wants_more guest (next ∷ rest) others q h = h

module _ {O : Type 0} (takes : Taking O) (v w : ProcessValue) (front : List Record) (o o' : O)
    (so_far : Replays takes v front w o o') where
  -- no step is taken back
  pub counts : IsProcess v → v.steps ≤ w.steps
  counts some =
      let to = so_far.shown some.guest some.process some.shows in
      let on = recorded_count some.guest some.process to.process front to.recorded in
      let first = some.shows.steps in
      let last = to.shows.steps in
      omega arith

  module _ (guest : Guest) (p : ProcessState) (shows : ShowsProcess v guest p) where
    abbrev to : ReplaysTo takes v front w guest p o o'
    to = so_far.shown guest p shows

    number_behind : w.host.released ≡ length to.process.host.lines
    number_behind = released_whole w guest to.process to.shows so_far.none_waits

    few_before : v.host.released ≤ length to.process.host.lines
    few_before =
        let first = released_few v guest p shows in
        let emits = recorded_emit guest p to.process front to.recorded in
        let grown : length to.process.host.lines ≡ length p.host.lines + length emits.lines =
        ap length emits.are ∙ length-append p.host.lines emits.lines in
        omega arith

    module _ (q : ProcessState) (o'' : O) (emits : Emits to.process.host q.host) where
      others_behind : drop w.host.released q.host.lines ≡ emits.lines
      others_behind =
          rw (number_behind, emits.are) (drop-append_seam to.process.host.lines emits.lines)

      told_on : TellsFrom takes w.host.released q o' o'' → TellsFrom takes v.host.released q o o''
      told_on told =
          let numbered : Releases takes o'
          (all_taken (suc (length to.process.host.lines)) (drop w.host.released q.host.lines)) o''
          = subst (λ z. Releases takes o'
          (all_taken (suc z) (drop w.host.released q.host.lines)) o'') number_behind told in
          tells_more takes v.host.released to.process q emits.lines o o' o'' few_before emits.are
          to.told
          (subst (λ z. Releases takes o' (all_taken (suc (length to.process.host.lines)) z) o'')
          others_behind numbered)

      refused_on : RefusesFrom takes w.host.released q o' o''
          → RefusesFrom takes v.host.released q o o''
      refused_on some =
          refuses_more takes v.host.released to.process q emits.lines o o' o'' few_before emits.are
          to.told some.told some.line some.others (sym others_behind ∙ some.are)
          (subst (λ z. Releases takes o' (last_refused (suc z) some.told some.line) o'')
          number_behind some.refused)

  pub replays_on : (rest : List Record) (x : ProcessValue) (o'' : O)
      → Replays takes w rest x o' o'' → Replays takes v (front ++ rest) x o o''
  replays_on rest x o'' more = record {
    none_waits = more.none_waits;
    shown = λ guest p shows.
        let first = so_far.shown guest p shows in
        let next = more.shown guest first.process first.shows in
        record {
          process = next.process;
          recorded = recorded_join guest p first.process next.process front rest first.recorded
              next.recorded;
          shows = next.shows;
          told = told_on guest p shows next.process o''
              (recorded_emit guest first.process next.process rest next.recorded) next.told;
        };
  }

  module _ (entry : Record) (others : List Record) (o'' : O) where
    abbrev come_on : (guest : Guest) (p : ProcessState) (shows : ShowsProcess v guest p)
        → ReplaysUpTo guest (so_far.shown guest p shows).process (entry ∷ [])
        → ReplaysUpTo guest p (front ++ (entry ∷ others))
    come_on guest p shows come = record {
      front = front ++ come.front;
      rest = come.rest ++ others;
      are = ap (λ z. front ++ (z ++ others)) come.are
          ∙ ap (λ z. front ++ z) (append_assoc come.front come.rest others)
          ∙ sym (append_assoc front come.front (come.rest ++ others));
      reached = come.reached;
      recorded = recorded_join guest p (so_far.shown guest p shows).process come.reached front
          come.front (so_far.shown guest p shows).recorded come.recorded;
      steps = come.steps;
      process = come.process;
      runs = come.runs;
      within = steps_before_more come.reached come.rest others come.steps come.within;
    }

    grown : (guest : Guest) (p : ProcessState)
        → (come : ReplaysUpTo guest p (entry ∷ [])) → Emits p.host come.process.host
    grown guest p come =
        emits_on p.host come.reached.host come.process.host
        (recorded_emit guest p come.reached come.front come.recorded)
        (runs_emit guest come.reached come.process [] come.steps come.runs)

    pub in_vain_on : (why : ReplayFault) → ReplaysInVain takes w (entry ∷ []) why o' o''
        → ReplaysInVain takes v (front ++ (entry ∷ others)) why o o''
    in_vain_on fault.Diverged vain guest p shows =
        let first = so_far.shown guest p shows in
        let h = vain guest first.process first.shows in (
          come_on guest p shows h.0,
          (
            told_on guest p shows h.0.process o'' (grown guest first.process h.0) h.1.0,
            diverges_more guest h.0.reached h.0.rest others h.0.process h.1.1,
          ),
        )
    in_vain_on fault.Memory vain guest p shows =
        let first = so_far.shown guest p shows in
        let h = vain guest first.process first.shows in (
          come_on guest p shows h.0,
          (
            told_on guest p shows h.0.process o'' (grown guest first.process h.0) h.1.0,
            wants_more guest h.0.rest others h.0.process h.1.1,
          ),
        )
    in_vain_on fault.Outlet vain guest p shows =
        let first = so_far.shown guest p shows in
        let h = vain guest first.process first.shows in (
          come_on guest p shows h.0,
          refused_on guest p shows h.0.process o'' (grown guest first.process h.0) h.1,
        )

-- ---- one record of a list after another

module _ {O : Type 0} (takes : Taking O) (v w : ProcessValue) (records : List Record) (i : ℕ)
    (entry : Record) (o o' o'' : O) (within : i < length records)
    (is : entry ≡ get_or records i entry) (so_far : Replays takes v (take i records) w o o') where
  pub play_next : (x : ProcessValue) → Replays takes w (entry ∷ []) x o' o''
      → Replays takes v (take (i + 1) records) x o o''
  play_next x next =
      let more : take (i + 1) records ≡ take i records ++ (entry ∷ []) =
      take_more records i entry within ∙ ap (λ z. take i records ++ (z ∷ [])) (sym is) in
      subst (λ z. Replays takes v z x o o'') (sym more)
      (replays_on takes v w (take i records) o o' so_far (entry ∷ []) x o'' next)

  pub play_in_vain : (why : ReplayFault) → ReplaysInVain takes w (entry ∷ []) why o' o''
      → ReplaysInVain takes v records why o o''
  play_in_vain why vain =
      let others : List Record = drop (suc i) records in
      let whole : records ≡ take i records ++ (entry ∷ others) =
      split_at records i entry within ∙ ap (λ z. take i records ++ (z ∷ others)) (sym is) in
      subst (λ z. ReplaysInVain takes v z why o o'') (sym whole)
      (in_vain_on takes v w (take i records) o o' so_far entry others o'' why vain)
