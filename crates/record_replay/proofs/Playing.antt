-- What a replay has done so far, and what one more step, answer or line adds.
use Rattle.std.proofs.Common.{◌≡◌, ◌⊎◌, inl, inr, ℕ, suc, ◌+◌, ◌<◌, ◌≤◌, [], ◌∷◌}
use Rattle.std.proofs.Common.{◌++◌, length, Option, Some, None, Ok, Err, refl, sym, ◌∙◌, ap}
use Rattle.std.proofs.Common.{subst, arith, length-append}
use Rattle.std.specs.Prelude.{if◌then◌else◌, Bool}
use Rattle.std.proofs.lemmas.Bool.{eq-eqb, ne_eqb}
use Rattle.wasi_abi.specs.declared.answer.Question.{Question}
use Rattle.wasi_abi.specs.declared.answer.Answer.{Answer}
use Rattle.disk_layout.specs.declared.record.Record.{Record}
use Rattle.process_rules.specs.Processes.{ProcessState, Guest}
use Rattle.process_rules.specs.Runs.{Wants, next_of, LeadsTo, Moves, Runs, none as no_step}
use Rattle.process_rules.proofs.Growing.{runs_count, runs_emit}
use Rattle.process_rules.proofs.Quiet.{runs_join, quiet_runs_are_runs}
use Rattle.process.specs.declared.fault.ProcessFault.{ProcessFault}
use Rattle.process.specs.declared.fault.ProcessFault.TheVariants as stop
use Rattle.process.specs.declared.stop.ProcessEnd.{ProcessEnd}
use Rattle.process.specs.declared.stop.Stop.TheVariants as stops
use Rattle.process.specs.rules.Values.{ProcessValue, ShowsProcess, IsProcess, waiting_in}
use Rattle.process.specs.rules.Stops.{ComesQuietly, ComesOwing, IsBeyond, AdvancesProcess}
use Rattle.record_replay.specs.rules.Calls.{Taking, Releases, all_taken, last_refused}
use Rattle.record_replay.specs.rules.Waiting.{ReleasesAll, ReleasesSome}
use Rattle.record_replay.specs.rules.Records.{none}
use Rattle.record_replay.specs.rules.Replays.{steps_before, ReplaysUpTo, answer_due, FitsNowhere}
use Rattle.record_replay.specs.rules.Replays.{ReplaysInVain}
use Rattle.record_replay.specs.Plays.{replay_fault, RunsOnward, RunsToStep}
use Rattle.record_replay.specs.declared.fault.ReplayFault.TheVariants as fault
use Rattle.record_replay.proofs.Emitted.{lines_on, released_few, released_whole, released_none}
use Rattle.record_replay.proofs.Emitted.{released_steps, tells_none}
use Rattle.record_replay.proofs.Emitted.{tells_same, tells_more, refuses_more}
use Rattle.record_replay.proofs.OnTheWay.{quiet_runs, owing_runs}
use Rattle.record_replay.proofs.Recordings.{behind_fits_nowhere, still_fits_nowhere}
use Rattle.record_replay.proofs.Recordings.{refused_fits_nowhere}

-- ---- the answer that is due

pub due_at : (p : ProcessState) (next : Record) → suc p.steps ≡ next.step
    → answer_due p next ≡ Some next.answer
due_at p next same =
    ap (λ (b : Bool). if b then Some next.answer else None) (eq-eqb (suc p.steps) next.step same)

pub due_before : (p : ProcessState) (next : Record) → suc p.steps < next.step
    → answer_due p next ≡ None
due_before p next less =
    ap (λ (b : Bool). if b then Some next.answer else None)
    (ne_eqb (suc p.steps) next.step (λ e. too_large (suc p.steps) next.step less e))
  where
    too_large : (n m : ℕ) → n < m → n ≡ m → ⊥
    too_large n m less e = omega (arith, less, e)

-- where an answer is wanted, no step goes on without
wants_still : (guest : Guest) (q : ProcessState) (question : Question)
    → next_of guest q None ≡ Wants question → (r : ProcessState) → Moves guest q None r → ⊥
wants_still guest q question wants r moves =
    let stopped : LeadsTo guest (next_of guest q None) None q r = moves.leads in
    (rw wants at stopped)

ended_still : (guest : Guest) (q r : ProcessState) (given : Option Answer)
    → (q.ended ≡ None → ⊥) → Moves guest q given r → ⊥
ended_still guest q r given over moves = over moves.running

-- where the replay has come, whose next record is this one
abbrev pub up_to : (guest : Guest) (p q : ProcessState) (n : ℕ) (entry : Record)
    → Runs guest p [] n q → n ≤ steps_before p (entry ∷ []) → ReplaysUpTo guest p (entry ∷ [])
up_to guest p q n entry runs few = record {
  front = [];
  rest = entry ∷ [];
  are = refl;
  reached = p;
  recorded = none;
  steps = n;
  process = q;
  runs = runs;
  within = few;
}

module _ {O : Type 0} (takes : Taking O) where
  -- no more lines were released than there are
  pub onward_few : (v w : ProcessValue) (guest : Guest) (p : ProcessState) (o o' : O)
      → ShowsProcess v guest p → (on : RunsOnward takes v w guest p o o')
      → v.host.released ≤ length on.process.host.lines
  onward_few v w guest p o o' shows on =
      let first = released_few v guest p shows in
      let emits = runs_emit guest p on.process [] on.steps on.runs in
      let grown : length on.process.host.lines ≡ length p.host.lines + length emits.lines =
      ap length emits.are ∙ length-append p.host.lines emits.lines in
      omega arith

  -- ---- up to the step of a record

  -- what the steps before a record's have led to so far
  pub record Going (v w : ProcessValue) (entry : Record) (o o' : O) : Type 0 where
    pub none_waits : waiting_in w ≡ []
    pub shown : (guest : Guest) (p : ProcessState) → ShowsProcess v guest p
        → (on : RunsOnward takes v w guest p o o') × (on.steps ≤ steps_before p (entry ∷ []))

  pub going_none : (v : ProcessValue) (entry : Record) (o : O) → waiting_in v ≡ []
      → Going v v entry o o
  going_none v entry o empty = record {
    none_waits = empty;
    shown = λ guest p shows. (
      record {
        steps = 0;
        process = p;
        runs = no_step;
        shows = shows;
        told = tells_none takes v guest p o shows empty;
      },
      omega arith,
    );
  }

  -- its step is behind
  pub going_behind : (v w : ProcessValue) (entry : Record) (o o' : O) → Going v w entry o o'
      → entry.step ≤ w.steps → ReplaysInVain takes v (entry ∷ []) fault.Diverged o o'
  going_behind v w entry o o' going le guest p shows =
      let g = going.shown guest p shows in
      let few = g.1 in
      let counted = runs_count guest p g.0.process [] g.0.steps g.0.runs in
      let same = g.0.shows.steps in
      let first : entry.step ≤ p.steps = omega arith in (
        up_to guest p g.0.process g.0.steps entry g.0.runs g.1,
        (g.0.told, inl (behind_fits_nowhere guest p entry first)),
      )

  module _ (v w x : ProcessValue) (entry : Record) (fuel_left : ℕ) (o o' : O)
      (going : Going v w entry o o') (is_fuel_left : w.steps + suc fuel_left ≡ entry.step)
      (same : x.host.released ≡ w.host.released) where
    abbrev at : (guest : Guest) (p : ProcessState) → ShowsProcess v guest p
        → RunsOnward takes v w guest p o o'
    at guest p shows = (going.shown guest p shows).0

    -- how many steps more can be taken
    room : (guest : Guest) (p : ProcessState) (shows : ShowsProcess v guest p)
        → suc (p.steps + ((at guest p shows).steps + fuel_left)) ≡ entry.step
    room guest p shows =
        let g = at guest p shows in
        let counted = runs_count guest p g.process [] g.steps g.runs in
        let shown = g.shows.steps in
        omega arith

    few_lines : (guest : Guest) (p : ProcessState) (shows : ShowsProcess v guest p)
        → v.host.released ≤ length (at guest p shows).process.host.lines
    few_lines guest p shows = onward_few v w guest p o o' shows (at guest p shows)

    -- ---- steps after which nothing is owed

    abbrev quietly : (guest : Guest) (p : ProcessState) (shows : ShowsProcess v guest p)
        → ComesQuietly x guest (at guest p shows).process → RunsOnward takes v x guest p o o'
    quietly guest p shows come =
        let g = at guest p shows in
        let quiet = quiet_runs_are_runs guest g.process come.process come.steps come.runs in
        record {
          steps = g.steps + come.steps;
          process = come.process;
          runs = runs_join guest p g.process come.process [] [] g.steps come.steps g.runs quiet.0;
          shows = come.shows;
          told = tells_same takes v.host.released g.process come.process o o' quiet.1 g.told;
        }

    abbrev stops_at : (guest : Guest) (p : ProcessState) (shows : ShowsProcess v guest p)
        (come : ComesQuietly x guest (at guest p shows).process) → come.steps ≤ fuel_left
        → ReplaysUpTo guest p (entry ∷ [])
    stops_at guest p shows come few =
        let on = quietly guest p shows come in
        let whole = room guest p shows in
        up_to guest p on.process on.steps entry on.runs (omega arith)

    -- the number of the next step
    next_step : (guest : Guest) (p : ProcessState) (shows : ShowsProcess v guest p)
        (come : ComesQuietly x guest (at guest p shows).process)
        → suc come.process.steps ≡ suc (p.steps + ((at guest p shows).steps + come.steps))
    next_step guest p shows come =
        let on = quietly guest p shows come in
        let counted = runs_count guest p on.process [] on.steps on.runs in
        omega arith

    pub spent : IsProcess w → AdvancesProcess w fuel_left (Ok stops.Spent) x
        → RunsToStep takes entry.step v x o o'
    spent some advances =
        let one = advances some.guest some.process some.shows in
        let quiet = quiet_runs x some.guest some.process one.1 in
        let counted = runs_count some.guest some.process one.1.process [] one.1.steps quiet in
        let shown = some.shows.steps in
        let shown_now = one.1.shows.steps in
        let all = one.2 in
        record {
          none_waits = one.1.none_waits;
          next = omega arith;
          shown = λ guest p shows.
              quietly guest p shows
              (advances guest (at guest p shows).process (at guest p shows).shows).1;
        }

    pub asks : (question : Question) → AdvancesProcess w fuel_left (Ok (stops.Asks question)) x
        → ReplaysInVain takes v (entry ∷ []) fault.Diverged o o'
    asks question advances guest p shows =
        let stop = advances guest (at guest p shows).process (at guest p shows).shows in
        let on = quietly guest p shows stop.1 in
        let whole = room guest p shows in
        let less = stop.2 in
        let few : stop.1.steps ≤ fuel_left = omega arith in
        let before : suc (p.steps + on.steps) < entry.step = omega arith in (
          stops_at guest p shows stop.1 few,
          (
            on.told,
            inl (still_fits_nowhere guest p on.process on.steps entry on.runs
                (wants_still guest on.process question stop.4) before),
          ),
        )

    pub ended : (how : ProcessEnd) → AdvancesProcess w fuel_left (Ok (stops.Ended how)) x
        → ReplaysInVain takes v (entry ∷ []) fault.Diverged o o'
    ended how advances guest p shows =
        let stop = advances guest (at guest p shows).process (at guest p shows).shows in
        let on = quietly guest p shows stop.1 in
        let over : on.process.ended ≡ None → ⊥ = λ running. (let e = stop.3 in absurd (cc)) in (
          stops_at guest p shows stop.1 stop.2,
          (
            on.told,
            inl (fits_not guest p shows on over
                (let whole = room guest p shows in let few = stop.2 in omega arith)),
          ),
        )
      where
        at_or_before : (n m : ℕ) → n ≤ m → (n ≡ m) ⊎ (n < m)
        at_or_before n m le = grind arith

        fits_not : (guest : Guest) (p : ProcessState) (shows : ShowsProcess v guest p)
            (on : RunsOnward takes v x guest p o o') → (on.process.ended ≡ None → ⊥)
            → suc (p.steps + on.steps) ≤ entry.step → FitsNowhere guest p entry
        fits_not guest p shows on over le =
            elim (at_or_before (suc (p.steps + on.steps)) entry.step le) [
              | inl e ↦ refused_fits_nowhere guest p on.process on.steps entry on.runs
                  (λ r moves. ended_still guest on.process r (Some entry.answer) over moves) e
              | inr less ↦ still_fits_nowhere guest p on.process on.steps entry on.runs
                  (λ r moves. ended_still guest on.process r None over moves) less
            ]

    -- ---- where no step could be taken

    pub cannot_advance : (why : ProcessFault) → AdvancesProcess w fuel_left (Err why) x
        → ReplaysInVain takes v (entry ∷ []) (replay_fault why) o o'
    cannot_advance stop.WrongAnswer advances guest p shows =
        absurd (advances guest (at guest p shows).process (at guest p shows).shows)
    cannot_advance stop.Memory advances guest p shows =
        let stop = advances guest (at guest p shows).process (at guest p shows).shows in
        let on = quietly guest p shows stop.1 in
        let whole = room guest p shows in
        let number = next_step guest p shows stop.1 in
        let less = stop.2 in
        let few : stop.1.steps ≤ fuel_left = omega arith in
        let before : on.process.steps < entry.step = omega arith in (
          stops_at guest p shows stop.1 few,
          (on.told, (stop.3, before, stop.4)),
        )
    cannot_advance stop.StepsSpent advances guest p shows =
        let stop = advances guest (at guest p shows).process (at guest p shows).shows in
        let on = quietly guest p shows stop.1 in
        let whole = room guest p shows in
        let number = next_step guest p shows stop.1 in
        let less = stop.2 in
        let few : stop.1.steps ≤ fuel_left = omega arith in
        let before : on.process.steps < entry.step = omega arith in
        let not_yet : suc on.process.steps < entry.step = omega arith in (
          stops_at guest p shows stop.1 few,
          (
            on.told,
            inr (
              stop.3,
              before,
              subst (λ z. IsBeyond guest on.process z) (sym (due_before on.process entry not_yet))
                  stop.4,
            ),
          ),
        )

    -- ---- what is owed

    abbrev owing : AdvancesProcess w fuel_left (Ok stops.Owes) x
        → (guest : Guest) (q : ProcessState) → ShowsProcess w guest q
        → (come : ComesOwing x guest q) × (come.steps < fuel_left)
    owing advances guest q shows =
        elim (advances guest q shows) [
          | inl k ↦ absurd (k.0 going.none_waits)
          | inr k ↦ (k.1, k.2)
        ]

    more_lines : (guest : Guest) (q : ProcessState) (shows : ShowsProcess w guest q)
        (come : ComesOwing x guest q)
        → come.process.host.lines ≡ q.host.lines ++ waiting_in x
    more_lines guest q shows come =
        lines_on w.host x.host q.host come.process.host shows.host come.shows.host
        (runs_emit guest q come.process [] (come.steps + 1) (owing_runs x guest q come))
        going.none_waits same

    first_number : (guest : Guest) (q : ProcessState) → ShowsProcess w guest q
        → x.host.released ≡ length q.host.lines
    first_number guest q shows = same ∙ released_whole w guest q shows going.none_waits

    owing_on : (guest : Guest) (p : ProcessState) (shows : ShowsProcess v guest p)
        (come : ComesOwing x guest (at guest p shows).process)
        → Runs guest p [] ((at guest p shows).steps + (come.steps + 1)) come.process
    owing_on guest p shows come =
        let g = at guest p shows in
        runs_join guest p g.process come.process [] [] g.steps (come.steps + 1) g.runs
        (owing_runs x guest g.process come)

    pub owes : (y : ProcessValue) (o'' : O) → AdvancesProcess w fuel_left (Ok stops.Owes) x
        → ReleasesAll takes x y o' o'' → Going v y entry o o''
    owes y o'' advances all = record {
      none_waits = released_none takes x y o' o'' all;
      shown = λ guest p shows.
          let g = at guest p shows in
          let come = owing advances guest g.process g.shows in
          let less = come.1 in
          let whole = room guest p shows in
          let number : x.host.released ≡ length g.process.host.lines =
          first_number guest g.process g.shows in
          let told : Releases takes o'
          (all_taken (suc (length g.process.host.lines)) (waiting_in x)) o'' =
          subst (λ z. Releases takes o' (all_taken (suc z) (waiting_in x)) o'') number all.told in (
            record {
              steps = g.steps + (come.0.steps + 1);
              process = come.0.process;
              runs = owing_on guest p shows come.0;
              shows = all.released.shows guest come.0.process come.0.shows;
              told = tells_more takes v.host.released g.process come.0.process (waiting_in x) o o'
                  o'' (few_lines guest p shows) (more_lines guest g.process g.shows come.0) g.told
                  told;
            },
            omega arith,
          );
    }

    -- less is left
    pub owes_less : (y : ProcessValue) (o'' : O) → IsProcess w
        → AdvancesProcess w fuel_left (Ok stops.Owes) x → ReleasesAll takes x y o' o''
        → (w.steps < y.steps) × (y.steps < entry.step)
    owes_less y o'' some advances all =
        let come = owing advances some.guest some.process some.shows in
        let runs = owing_runs x some.guest some.process come.0 in
        let counted = runs_count some.guest some.process come.0.process [] (come.0.steps + 1) runs
        in
        let shown = some.shows.steps in
        let shown_now = come.0.shows.steps in
        let still = released_steps takes x y o' o'' all in
        let less = come.1 in
        (omega arith, omega arith)

    pub owes_in_vain : (y : ProcessValue) (o'' : O) → AdvancesProcess w fuel_left (Ok stops.Owes) x
        → ReleasesSome takes x y o' o'' → ReplaysInVain takes v (entry ∷ []) fault.Outlet o o''
    owes_in_vain y o'' advances some guest p shows =
        let g = at guest p shows in
        let come = owing advances guest g.process g.shows in
        let less = come.1 in
        let whole = room guest p shows in
        let number : x.host.released ≡ length g.process.host.lines =
        first_number guest g.process g.shows in
        let refused : Releases takes o'
        (last_refused (suc (length g.process.host.lines)) some.told some.line) o'' =
        subst (λ z. Releases takes o' (last_refused (suc z) some.told some.line) o'') number
        some.refused in (
          up_to guest p come.0.process (g.steps + (come.0.steps + 1)) entry
              (owing_on guest p shows come.0) (omega arith),
          refuses_more takes v.host.released g.process come.0.process (waiting_in x) o o' o''
              (few_lines guest p shows) (more_lines guest g.process g.shows come.0) g.told some.told
              some.line some.others some.waiting refused,
        )
