-- What a worker's disk holds of a promise.
use Rattle.std.proofs.Common.{◌≡◌, ◌⊎◌, ℕ, zero, suc, ◌+◌, ◌<◌, ◌≤◌, List, [], ◌∷◌, ◌++◌, length}
use Rattle.std.proofs.Common.{take, drop, refl, sym, ap}
use Rattle.std.proofs.Common.{◌∙◌, subst, inl, inr, ⊎_elim, arith, length-append, length-take}
use Rattle.std.specs.Prelude.{map, max}
use Rattle.std.proofs.Math.Nat.{le_of_eq, le_trans}
use Rattle.std.proofs.lemmas.Bool.{cases_lt}
use Rattle.std.proofs.lemmas.List.{append-nil, length-take-le, take_all, take-take}
use Rattle.wasm_syntax.specs.declared.module.Module.{Module}
use Rattle.wasi_abi.specs.rules.Configs.{Settings}
use Rattle.wasi_calls_rules.specs.WasiStates.{WasiState}
use Rattle.wasi_calls_rules.specs.laws.Laws.{Emits}
use Rattle.process_rules.specs.Processes.{ProcessState}
use Rattle.process_rules.specs.Runs.{Kept, Given, Runs, Reaches}
use Rattle.process_rules.specs.Behind.{AnswersBehindLine, IsNarrowTo}
use Rattle.process_rules.proofs.Growing.{runs_count, runs_emit}
use Rattle.sector_disk.specs.rules.DiskImage.{DiskImage}
use Rattle.sector_disk.specs.rules.Medium.{Medium, LeavesOnly}
use Rattle.sector_disk.proofs.Moments.{leaves_weaker}
use Rattle.disk_layout.specs.rules.Journal.{Record}
use Rattle.journal.specs.rules.State.{JournalState}
use Rattle.record_replay.specs.rules.Records.{Recorded, none, given_in}
use Rattle.record_replay.proofs.Recordings.{recorded_count, recorded_emit, recorded_join}
use Rattle.worker_store.specs.restart_theorem.Stands.{IsBlank}
use Rattle.record_replay.proofs.OneRecording.{one_recorded}
use Rattle.worker_store.proofs.RestartLemmas.Fronts.{none_widens, up_to_front}
use Rattle.worker_store.specs.restart_theorem.Lives.{Checkpoint, Done, Ended}
use Rattle.worker_store.specs.restart_theorem.Promises.{Promise, after, HoldsAll}
use Rattle.worker_store.specs.restart_theorem.Holds.{HoldsPromise, IsUnopened, DiskImageHolds}
use Rattle.worker_store.specs.restart_theorem.Holds.{CarriesPromise}
use Rattle.worker_store.proofs.RestartLemmas.Disks.{blank_stands_for_none}
use Rattle.worker_store.specs.rules.Savepoints.{Savepoint, IsAtSavepoint, IsAtFront, BeginsAtPoint}
use Rattle.worker_store.specs.laws.Savepoints.{point_of, StandsBySaved}
use Rattle.worker_store.specs.rules.Carried.{answers_at, count_at, IsHeldAt, IsCarried}
use Rattle.worker_store.specs.laws.Carried.{HeldAtHoldsPromise, MarkedIsHeld, BlankIsUnopened}
use Rattle.worker_store.specs.laws.Carried.{StaysCarried, PromiseIsHeldAt, PromisesNoMore}
use Rattle.worker_store.specs.laws.Carried.{LessIsHeld, NextIsHeld, FreshIsHeld, SavedIsHeld}
use Rattle.worker_store.specs.laws.Carried.{OpeningIsHeld, PointIsAt, PointOpens, CarriedKeeps}
use Rattle.worker_store.specs.laws.Carried.{BarrierCarries, BarrierCarriesOn, CommitCarries}
use Rattle.worker_store.specs.laws.Carried.{SavepointCarries, CreationCarries, BeginsCarried}
use Rattle.worker_store.specs.laws.Acts.{keeping_more}
use Rattle.worker_store.specs.laws.Telling.{AddsLines}
use Rattle.worker_store.proofs.LawLemmas.Acts.{saving_ends_alike}
use Rattle.worker_store.proofs.LawLemmas.Points.{by_point, steps_of}
use Rattle.worker_store.proofs.LawLemmas.Fronts.{front_kept, length_of_map}
use Rattle.worker_store.proofs.LawLemmas.Passing.{crashed_in_the_end}
use Rattle.worker_store.proofs.LawLemmas.Keeping.{stays_journaled}

-- ---- counts

pub within_of : {X : Type 0} (n : ℕ) (xs ys : List X) → take n xs ≡ ys → length ys ≡ n
    → n ≤ length xs
within_of n xs ys e long =
    let cut : length (take n xs) ≡ length ys = ap (λ l. length l) e in
    omega (arith, length-take n xs, cut, long)

pub answers_count : {m : Module} {config : Settings} (point : Savepoint m config)
    (records : List Record) → length (answers_at point records) ≡ count_at point records
answers_count point records =
    length-append point.front (map given_in records)
    ∙ ap (λ n. length point.front + n) (length_of_map records)

pub more_lines : (g h : WasiState) → Emits g h → length g.lines ≤ length h.lines
more_lines g h emits =
    let long : length h.lines ≡ length g.lines + length emits.lines =
    ap (λ l. length l) emits.are ∙ length-append g.lines emits.lines in
    omega (arith, long)

plus_none : (n : ℕ) → n + 0 ≡ n
plus_none n = omega arith

-- ---- what is held

pub holds_grow : (m : Module) (config : Settings) (kept : List Kept) (promise : Promise)
    (held more steps later : ℕ) → HoldsAll m config kept promise held steps → held ≤ more
    → more ≤ length kept → steps ≤ later → IsNarrowTo (drop more kept) later
    → HoldsAll m config kept promise more later
holds_grow m config kept promise held more steps later holds le within on up =
    let answers : promise.answers ≤ held = holds.answers in
    let counted : promise.steps ≤ steps = holds.steps_held in
    record {
      within = within;
      up_to = up;
      answers = omega (arith, answers, le);
      steps_held = omega (arith, counted, on);
      lines = λ i below.
          let line = holds.lines i below in
          let few : line.0 ≤ held = line.1 in (line.0, omega (arith, few, le), line.2);
      syncs = λ k a below behind.
          let few : a ≤ held = holds.syncs k a below behind in
          omega (arith, few, le);
    }

holds_less : (m : Module) (config : Settings) (kept : List Kept) (less more : Promise)
    (held steps : ℕ) → PromisesNoMore less more → HoldsAll m config kept more held steps
    → HoldsAll m config kept less held steps
holds_less m config kept less more held steps no_more holds =
    let answers : more.answers ≤ held = holds.answers in
    let few_answers : less.answers ≤ more.answers = no_more.answers in
    let counted : more.steps ≤ steps = holds.steps_held in
    let few_steps : less.steps ≤ more.steps = no_more.steps in
    record {
      within = holds.within;
      up_to = holds.up_to;
      answers = omega (arith, answers, few_answers);
      steps_held = omega (arith, counted, few_steps);
      lines = λ i below. holds.lines i (le_trans below no_more.begun);
      syncs = λ k a below behind. holds.syncs k a (le_trans below no_more.synced) behind;
    }

pub less_is_held : LessIsHeld
less_is_held m config less more now disk no_more holds = record {
  created = holds.created;
  held = holds.held;
  steps = holds.steps;
  stands = holds.stands;
  holds = holds_less m config now.kept less more holds.held holds.steps no_more holds.holds;
  snapshot_heard = holds.snapshot_heard;
  snapshot_passed = le_trans no_more.passed holds.snapshot_passed;
}

-- a line stays behind as many answers of a front that has them
line_of_front : (m : Module) (config : Settings) (kept : List Kept) (i a n : ℕ) → a ≤ n
    → n ≤ length kept → AnswersBehindLine m config kept i a
    → AnswersBehindLine m config (take n kept) i a
line_of_front m config kept i a n few within behind = record {
  within = let long = length-take-le n kept within in omega (arith, few, long);
  steps = behind.steps;
  process = behind.process;
  reached = subst (λ l. Reaches m config l behind.steps behind.process)
      (sym (take-take a n kept few)) behind.reached;
  up_to = up_to_front a n behind.steps kept behind.up_to;
  emitted = behind.emitted;
}

-- so what is held is held by as many answers of a front
pub held_of_front : (m : Module) (config : Settings) (promise : Promise) (kept : List Kept)
    (n held steps : ℕ) → n ≤ length kept → held ≡ n → HoldsAll m config kept promise held steps
    → HoldsAll m config (take n kept) promise held steps
held_of_front m config promise kept n held steps within same holds =
    let long : length (take n kept) ≡ n = length-take-le n kept within in
    record {
      within = omega (arith, same, long);
      up_to = up_to_front held n steps kept holds.up_to;
      answers = holds.answers;
      steps_held = holds.steps_held;
      lines = λ i below.
          let line = holds.lines i below in
          let few : line.0 ≤ n = le_trans line.1 (le_of_eq same) in
          (line.0, line.1, line_of_front m config kept i line.0 n few within line.2);
      syncs = λ k a below behind.
          let whole = behind.within in
          omega (arith, whole, long, same);
    }

-- a number up to the larger of two, and past the second, is up to the first
pub up_to_first : {n a b : ℕ} → n ≤ max a b → b < n → n ≤ a
up_to_first below late = omega (arith, below, late)

-- Lines are told. What a savepoint holds it holds still, where it has the answers behind them.
pub retold : (m : Module) (config : Settings) (promise promise' : Promise)
    (point : Savepoint m config) (records : List Record) (last : ProcessState) (lines : ℕ)
    → IsHeldAt promise point records last → AddsLines promise lines promise'
    → ((i : ℕ) → i ≤ lines
    → (a : ℕ) × (a ≤ count_at point records) × AnswersBehindLine m config promise.kept i a)
    → IsHeldAt promise' point records last
retold m config promise promise' point records last lines held adds behind =
    let all = held.holds in
    record {
      created = adds.created ∙ held.created;
      front = ap (λ (l : List Kept). take (count_at point records) l) adds.kept ∙ held.front;
      recorded = held.recorded;
      holds = subst (λ (l : List Kept).
          HoldsAll m config l promise' (count_at point records) last.steps) (sym adds.kept)
          (record {
            within = all.within;
            up_to = all.up_to;
            answers = le_trans (le_of_eq adds.answers) all.answers;
            steps_held = le_trans (le_of_eq adds.steps) all.steps_held;
            lines = λ i below. ⊎_elim
                (λ (late : promise.begun < i).
                behind i (up_to_first (le_trans below adds.begun) late))
                (λ (early : i ≤ promise.begun). all.lines i early)
                (cases_lt promise.begun i);
            syncs = λ k a below sync. all.syncs k a (le_trans below (le_of_eq adds.synced)) sync;
          });
      heard = le_trans held.heard adds.heard;
      passed = le_trans (le_of_eq adds.passed) held.passed;
    }

-- ---- an image

pub held_at_holds_promise : HeldAtHoldsPromise
held_at_holds_promise m config promise point records last disk held at =
    let by : StandsBySaved point (take (count_at point records) promise.kept) last.steps disk =
    by_point m config point records last disk (take (count_at point records) promise.kept)
    last.steps at held.front refl in
    record {
      created = held.created;
      held = count_at point records;
      steps = last.steps;
      stands = by.stands;
      holds = held.holds;
      snapshot_heard = subst (λ s. s.lines ≤ promise.heard) (sym by.saved) held.heard;
      snapshot_passed = subst (λ s. promise.passed ≤ s.lines) (sym by.saved) held.passed;
    }

pub promise_is_held_at : PromiseIsHeldAt
promise_is_held_at m config promise disk holds =
    let stands = holds.stands in
    let all = holds.holds in
    let point : Savepoint m config = point_of stands in
    let count : count_at point stands.records ≡ holds.held =
    sym (answers_count point stands.records) ∙ ap (λ l. length l) (sym stands.rest)
    ∙ length-take-le holds.held promise.kept all.within in
    let there : HoldsAll m config promise.kept promise holds.held stands.last.steps =
    subst (λ n. HoldsAll m config promise.kept promise holds.held n) stands.at_step all in
    record {
      created = holds.created;
      front = subst (λ n. take n promise.kept ≡ answers_at point stands.records) (sym count)
          stands.rest;
      recorded = stands.recorded;
      holds = subst (λ n. HoldsAll m config promise.kept promise n stands.last.steps) (sym count)
          there;
      heard = holds.snapshot_heard;
      passed = holds.snapshot_passed;
    }

-- ---- fronts of the records

-- where records are left, an answer is kept next
pub up_to_map : (kept front : List Kept) (all : List Record) (a b c n : ℕ) → a ≡ length front + c
    → b ≡ length front + length all → take b kept ≡ front ++ map given_in all → c < length all
    → IsNarrowTo (drop a kept) n
up_to_map [] front all a b c n e f same less = none_widens a n
up_to_map (k ∷ kept) (x ∷ front) all zero b c n e f same less = absurd (omega (arith, e))
up_to_map (k ∷ kept) (x ∷ front) all (suc a) zero c n e f same less = absurd (omega (arith, f))
up_to_map (k ∷ kept) (x ∷ front) all (suc a) (suc b) c n e f same less =
    let others : take b kept ≡ front ++ map given_in all = cc in
    up_to_map kept front all a b c n (omega (arith, e)) (omega (arith, f)) others less
up_to_map (k ∷ kept) [] [] a b c n e f same less = absurd (omega (arith, less))
up_to_map (k ∷ kept) [] (r ∷ all) a zero c n e f same less = absurd (omega (arith, f))
up_to_map (k ∷ kept) [] (r ∷ all) zero (suc b) c n e f same less =
    let first : k ≡ Given r.answer = cc in
    subst (λ (z : Kept). IsNarrowTo (z ∷ kept) n) (sym first) tt
up_to_map (k ∷ kept) [] (r ∷ all) (suc a) (suc b) zero n e f same less = absurd (omega (arith, e))
up_to_map (k ∷ kept) [] (r ∷ all) (suc a) (suc b) (suc c) n e f same less =
    let others : take b kept ≡ map given_in all = cc in
    up_to_map kept [] all a b c n (omega (arith, e)) (omega (arith, f)) others (omega (arith, less))

-- with so many of the pending ones
module _ (m : Module) (config : Settings) (promise : Promise) (point : Savepoint m config)
    (records pending : List Record) (last : ProcessState)
    (held : IsHeldAt promise point records last)
    (answers : take (count_at point (records ++ pending)) promise.kept
    ≡ answers_at point (records ++ pending)) (now : ProcessState)
    (recorded : Recorded point.reached.guest last pending now)
    (up : IsNarrowTo (drop (count_at point (records ++ pending)) promise.kept) now.steps) where
  all_within : count_at point (records ++ pending) ≤ length promise.kept
  all_within = within_of (count_at point (records ++ pending)) promise.kept
      (answers_at point (records ++ pending)) answers (answers_count point (records ++ pending))

  -- where all of them are there, it is the process at hand
  all_there : (disk : DiskImage) (at : IsAtFront point records last pending disk)
      → length pending ≤ at.count
      → IsNarrowTo (drop (count_at point (records ++ take at.count pending)) promise.kept)
      at.process.steps
  all_there disk at none_left =
      let whole : take at.count pending ≡ pending = take_all at.count pending none_left in
      let same : at.process ≡ now =
      one_recorded point.reached.guest last at.process now pending
      (subst (λ l. Recorded point.reached.guest last l at.process) whole at.recorded) recorded in
      subst (λ (p : ProcessState).
      IsNarrowTo (drop (count_at point (records ++ take at.count pending)) promise.kept) p.steps)
      (sym same)
      (subst (λ (l : List Record). IsNarrowTo (drop (count_at point (records ++ l)) promise.kept)
      now.steps) (sym whole) up)

  pub front_is_held : (disk : DiskImage) → IsAtFront point records last pending disk
      → HoldsPromise m config promise promise disk
  front_is_held disk at =
      let some : List Record = take at.count pending in
      let those : List Record = records ++ some in
      let within : at.count ≤ length pending = at.within in
      let few : length some ≡ at.count = length-take-le at.count pending within in
      let counted : length those ≡ length records + at.count =
      length-append records some ∙ ap (λ n. length records + n) few in
      let count : count_at point those ≡ length point.front + length records + at.count =
      omega (arith, counted) in
      let all : length (records ++ pending) ≡ length records + length pending =
      length-append records pending in
      let bound : count_at point (records ++ pending) ≤ length promise.kept = all_within in
      let front : take (count_at point those) promise.kept ≡ answers_at point those =
      sym (take-take (count_at point those) (count_at point (records ++ pending)) promise.kept
      (omega (arith, count, all, within)))
      ∙ ap (λ l. take (count_at point those) l) answers
      ∙ ap (λ n. take n (answers_at point (records ++ pending))) count
      ∙ front_kept point.front records pending at.count in
      held_at_holds_promise m config promise point those at.process disk (record {
        created = held.created;
        front = front;
        recorded = recorded_join point.reached.guest point.process last at.process records some
            held.recorded at.recorded;
        holds = holds_grow m config promise.kept promise (count_at point records)
            (count_at point those) last.steps at.process.steps held.holds (omega (arith, count))
            (omega (arith, count, all, within, bound))
            (recorded_count point.reached.guest last at.process some at.recorded)
            (⊎_elim
            (λ (some_left : at.count < length pending).
            up_to_map promise.kept point.front (records ++ pending) (count_at point those)
            (count_at point (records ++ pending)) (length records + at.count) at.process.steps
            (omega (arith, count)) refl answers (omega (arith, all, some_left)))
            (λ (none_left : length pending ≤ at.count).
            all_there disk at none_left)
            (cases_lt at.count (length pending)));
        heard = held.heard;
        passed = held.passed;
      }) at.at

-- ---- what a recovery finds

pub marked_is_held : MarkedIsHeld
marked_is_held m config promise disk found marks =
    ⊎_elim
    (λ (unopened : IsUnopened promise disk). absurd (unopened.1 marks))
    (λ (holds : HoldsPromise m config promise promise disk). holds)
    found

pub blank_is_unopened : BlankIsUnopened
blank_is_unopened m config promise disk found blank =
    ⊎_elim
    (λ (unopened : IsUnopened promise disk). unopened.0)
    (λ (holds : HoldsPromise m config promise promise disk).
    absurd (blank_stands_for_none disk m config (take holds.held promise.kept) holds.steps blank
    holds.stands))
    found

-- ---- savepoints

pub next_is_held : NextIsHeld
next_is_held m config promise point next records more last held saves =
    let guest = point.reached.guest in
    let long : length next.front ≡ count_at point records + length more =
    ap (λ l. length l) saves.front ∙ length-append (answers_at point records) more
    ∙ ap (λ n. n + length more) (answers_count point records) in
    let bound : length next.front ≤ length promise.kept =
    within_of (length next.front) promise.kept next.front saves.kept refl in
    let same : length next.front ≡ count_at next [] = omega arith in
    let run : next.process.steps ≡ last.steps + saves.steps =
    runs_count guest last next.process more saves.steps saves.runs in
    let told : point.saved.lines ≡ length point.process.host.lines = point.shown.lines in
    let tells : next.saved.lines ≡ length next.process.host.lines = next.shown.lines in
    let first : length point.process.host.lines ≤ length last.host.lines =
    more_lines point.process.host last.host
    (recorded_emit guest point.process last records held.recorded) in
    let later : length last.host.lines ≤ length next.process.host.lines =
    more_lines last.host next.process.host
    (runs_emit guest last next.process more saves.steps saves.runs) in
    let few : promise.passed ≤ point.saved.lines = held.passed in
    record {
      created = held.created;
      front = subst (λ n. take n promise.kept ≡ next.front ++ []) same
          (saves.kept ∙ sym (append-nil next.front));
      recorded = none;
      holds = holds_grow m config promise.kept promise (count_at point records)
          (count_at next []) last.steps next.process.steps held.holds (omega (arith, long))
          (omega (arith, bound)) (omega (arith, run))
          (subst (λ n. IsNarrowTo (drop n promise.kept) next.process.steps) same saves.up_to);
      heard = saves.heard;
      passed = omega (arith, few, told, tells, first, later);
    }

-- the answers on record are the first of all that is kept
pub first_on_record : (m : Module) (config : Settings) (promise : Promise)
    (point : Savepoint m config) (records : List Record) (last : ProcessState)
    (front : List Kept) → IsHeldAt promise point records last
    → front ≡ answers_at point records → take (length front) promise.kept ≡ front
first_on_record m config promise point records last front held is =
    subst (λ (l : List Kept). take (length l) promise.kept ≡ l) (sym is)
    (subst (λ n. take n promise.kept ≡ answers_at point records)
    (sym (answers_count point records)) held.front)

pub fresh_is_held : FreshIsHeld
fresh_is_held m config promise point nothing created empty no_lines =
    let none_kept : promise.kept ≡ [] = ap (λ (p : Promise). p.kept) nothing in
    let no_answers : promise.answers ≡ 0 = ap (λ (p : Promise). p.answers) nothing in
    let no_steps : promise.steps ≡ 0 = ap (λ (p : Promise). p.steps) nothing in
    let none_passed : promise.passed ≡ 0 = ap (λ (p : Promise). p.passed) nothing in
    let none_begun : promise.begun ≡ 0 = ap (λ (p : Promise). p.begun) nothing in
    let kept_length : length promise.kept ≡ 0 = ap (λ l. length l) none_kept in
    let front_length : length point.front ≡ 0 = ap (λ l. length l) empty in
    record {
      created = created;
      front = both_empty point.front promise.kept empty none_kept;
      recorded = none;
      holds = record {
        within = omega (arith, front_length);
        up_to = subst (λ (l : List Kept). IsNarrowTo (drop (length point.front + 0) l)
            point.process.steps) (sym none_kept)
            (none_widens (length point.front + 0) point.process.steps);
        answers = omega (arith, no_answers);
        steps_held = omega (arith, no_steps);
        lines = λ i below. (0, omega arith, at_first i (none_of i promise.begun below none_begun));
        syncs = λ k a below behind. few a (length promise.kept) behind.within kept_length;
      };
      heard = at_zero point.saved.lines promise.heard no_lines;
      passed = at_zero promise.passed point.saved.lines none_passed;
    }
  where
    both_empty : (front kept : List Kept) → front ≡ [] → kept ≡ []
        → take (length front + 0) kept ≡ front ++ []
    both_empty front kept e k = rw e refl

    at_zero : (n k : ℕ) → n ≡ 0 → n ≤ k
    at_zero n k e = omega (arith, e)

    none_of : (i n : ℕ) → i ≤ n → n ≡ 0 → i ≡ 0
    none_of i n below e = omega (arith, below, e)

    few : {x : ℕ} (a n : ℕ) → a ≤ n → n ≡ 0 → a ≤ x
    few a n below e = omega (arith, below, e)

    at_first : (i : ℕ) → i ≡ 0 → AnswersBehindLine m config promise.kept i 0
    at_first i e = record {
      within = omega arith;
      steps = point.steps;
      process = point.process;
      reached = subst (λ l. Reaches m config l point.steps point.process) empty point.reached;
      up_to = subst (λ (l : List Kept). IsNarrowTo l point.steps)
          (sym (ap (λ (p : Promise). p.kept) nothing)) tt;
      emitted = at_zero i (length point.process.host.lines) e;
    }

-- and what is kept next widens nothing up to there
pub first_up_to : (m : Module) (config : Settings) (promise : Promise)
    (point : Savepoint m config) (records : List Record) (last : ProcessState)
    (front : List Kept) → IsHeldAt promise point records last
    → front ≡ answers_at point records → IsNarrowTo (drop (length front) promise.kept) last.steps
first_up_to m config promise point records last front held is =
    subst (λ n. IsNarrowTo (drop n promise.kept) last.steps)
    (sym (ap (λ l. length l) is ∙ answers_count point records)) held.holds.up_to

-- what the end of a checkpoint promises
checkpoint_is_held : (m : Module) (config : Settings) (promise : Promise)
    (point : Savepoint m config) → IsHeldAt promise point [] point.process
    → point.front ≡ promise.kept
    → IsHeldAt (after promise (Ended Checkpoint Done (length point.front) point.saved)) point []
    point.process
checkpoint_is_held m config promise point held all =
    let holds = held.holds in
    let long : length point.front ≡ length promise.kept = ap (λ l. length l) all in
    let answers : promise.answers ≤ length point.front + 0 = holds.answers in
    let counted : promise.steps ≤ point.process.steps = holds.steps_held in
    let same : point.saved.steps ≡ point.process.steps = point.shown.steps in
    let passed : promise.passed ≤ point.saved.lines = held.passed in
    record {
      created = held.created;
      front = held.front;
      recorded = held.recorded;
      holds = record {
        within = holds.within;
        up_to = holds.up_to;
        answers = omega (arith, answers);
        steps_held = omega (arith, counted, same);
        lines = holds.lines;
        syncs = λ k a below behind.
            let within = behind.within in
            omega (arith, within, long);
      };
      heard = held.heard;
      passed = omega (arith, passed);
    }

pub saved_is_held : SavedIsHeld
saved_is_held m config promise act more point saves held all =
    subst (λ (z : Promise). IsHeldAt z point [] point.process)
    (sym (saving_ends_alike promise act more point.saved Done (length point.front) saves))
    (checkpoint_is_held m config (keeping_more promise more) point held all)

pub opening_is_held : OpeningIsHeld
opening_is_held m config promise point held =
    let n : ℕ = length point.front in
    let bound : n + 0 ≤ length promise.kept = held.holds.within in
    let within : n ≤ length promise.kept = omega (arith, bound) in
    let holds = held_of_front m config promise promise.kept n (n + 0) point.process.steps within
    (plus_none n) held.holds in
    let long : length (take n promise.kept) ≡ n = length-take-le n promise.kept within in
    let answers : promise.answers ≤ n + 0 = holds.answers in
    let counted : promise.steps ≤ point.process.steps = holds.steps_held in
    let same : point.saved.steps ≡ point.process.steps = point.shown.steps in
    let passed : promise.passed ≤ point.saved.lines = held.passed in
    record {
      created = held.created;
      front = take-take (n + 0) n promise.kept (omega arith) ∙ held.front;
      recorded = held.recorded;
      holds = record {
        within = holds.within;
        up_to = holds.up_to;
        answers = omega (arith, answers);
        steps_held = omega (arith, counted, same);
        lines = holds.lines;
        syncs = λ k a below behind.
            let whole = behind.within in
            omega (arith, whole, long);
      };
      heard = held.heard;
      passed = omega (arith, passed);
    }

-- ---- a process

pub point_is_at : PointIsAt
point_is_at m config point =
    let reached = point.reached in
    let counted : point.steps ≡ point.saved.steps =
    sym (steps_of m config point) ∙ sym point.shown.steps in
    record {
      process = point.process;
      reached = record {
        guest = reached.guest;
        start = reached.start;
        begins = reached.begins;
        runs = subst (λ n. Runs reached.guest reached.start point.front n point.process) counted
            reached.runs;
      };
      functions = point.functions;
      function_types = point.function_types;
      table = point.table;
      shown = point.shown;
    }

pub point_opens : PointOpens
point_opens m config promise point stage held shut last further =
    let reached = point.reached in
    let all = held.holds in
    let n : ℕ = length point.front in
    let bound : n + 0 ≤ length promise.kept = all.within in
    let none_more : n + 0 ≡ n = omega arith in
    let front : point.front ≡ take n promise.kept =
    sym (append-nil point.front) ∙ sym held.front ∙ ap (λ k. take k promise.kept) none_more in
    let counted : point.steps ≡ point.saved.steps =
    sym (steps_of m config point) ∙ sym point.shown.steps in
    let same : point.saved.steps ≡ point.process.steps = point.shown.steps in
    record {
      shut = shut;
      created = held.created;
      at = record {
        process = point.process;
        reached = record {
          guest = reached.guest;
          start = reached.start;
          begins = reached.begins;
          runs = subst (λ l. Runs reached.guest reached.start l point.saved.steps point.process)
              front
              (subst (λ k. Runs reached.guest reached.start point.front k point.process) counted
              reached.runs);
        };
        functions = point.functions;
        function_types = point.function_types;
        table = point.table;
        shown = point.shown;
      };
      holds = holds_grow m config promise.kept promise (n + 0) n point.process.steps
          point.saved.steps all (omega arith) (omega (arith, bound)) (omega (arith, same))
          (subst (λ k. IsNarrowTo (drop n promise.kept) k) (sym same)
          (subst (λ k. IsNarrowTo (drop k promise.kept) point.process.steps) (plus_none n)
          all.up_to));
      all_heard = held.heard;
      none_beyond = last;
      no_further = further;
    }

-- ---- a disk

-- all records on it and in memory hold what is promised
pub all_is_held : (m : Module) (config : Settings) (promise : Promise)
    (point : Savepoint m config) (journal : JournalState) (records pending : List Record)
    (last now : ProcessState) (disk : Medium)
    → IsCarried promise point journal records pending last now disk
    → IsHeldAt promise point (records ++ pending) now
all_is_held m config promise point journal records pending last now disk is =
    let guest = point.reached.guest in
    let journaled = is.journaled in
    let held = is.held in
    let all : List Record = records ++ pending in
    let long : length all ≡ length records + length pending = length-append records pending in
    record {
      created = held.created;
      front = is.answers;
      recorded = recorded_join guest point.process last now records pending held.recorded
          journaled.recorded;
      holds = holds_grow m config promise.kept promise (count_at point records)
          (count_at point all) last.steps now.steps held.holds (omega (arith, long))
          (all_within m config promise point records pending last held is.answers now
          journaled.recorded is.up_to)
          (recorded_count guest last now pending journaled.recorded) is.up_to;
      heard = held.heard;
      passed = held.passed;
    }

-- where each image that is left holds it, a call carries it
pub carries : (m : Module) (config : Settings) (less promise : Promise) (old new : Medium)
    (P : DiskImage → Type 0) → PromisesNoMore less promise
    → ((disk : DiskImage) → P disk → HoldsPromise m config promise promise disk)
    → LeavesOnly old new P → CarriesPromise m config less promise old new
carries m config less promise old new P no_more holds leaves = record {
  at_any_moment = leaves_weaker old new P (DiskImageHolds m config less promise) leaves
      (λ image at.
      inr (less_is_held m config less promise promise image no_more (holds image at)));
  in_the_end = λ image crashed. inr (holds image (crashed_in_the_end old new P leaves
      image crashed));
}

module _ {D : Type 0} (medium : D → Medium) where
  pub carried_keeps : CarriedKeeps medium
  carried_keeps m config promise point journal records pending last now disk is image crashed =
      let journaled = is.journaled in
      inr (held_at_holds_promise m config promise point records last image is.held
      (journaled.at_savepoint image crashed))

  pub stays_carried : StaysCarried medium
  stays_carried m config promise point journal records pending last now old new is stays = record {
    journaled = stays_journaled medium m config point journal records pending last now old new
        is.journaled stays;
    held = is.held;
    answers = is.answers;
    up_to = is.up_to;
  }

  pub barrier_carries : BarrierCarries medium
  barrier_carries m config less promise point journal records pending last now old new no_more is
      leaves =
      carries m config less promise (medium old) (medium new) _ no_more
      (λ disk at. front_is_held m config promise point records pending last is.held is.answers now
      is.journaled.recorded is.up_to disk at) leaves

  pub barrier_carries_on : BarrierCarriesOn medium
  barrier_carries_on m config promise point before later records pending last now old new is goes =
      record {
        journaled = goes;
        held = all_is_held m config promise point before records pending last now (medium old) is;
        answers = subst (λ (l : List Record). take (count_at point l) promise.kept
            ≡ answers_at point l) (sym (append-nil (records ++ pending))) is.answers;
        up_to = subst (λ (l : List Record).
            IsNarrowTo (drop (count_at point l) promise.kept) now.steps)
            (sym (append-nil (records ++ pending))) is.up_to;
      }

  pub commit_carries : CommitCarries medium
  commit_carries m config less promise point next records more last old new no_more held saves
      leaves =
      let there = next_is_held m config promise point next records more last held saves in
      carries m config less promise (medium old) (medium new) _ no_more
      (λ disk at. ⊎_elim
      (λ (stands : IsAtSavepoint point records last disk).
      held_at_holds_promise m config promise point records last disk held stands)
      (λ (begins : BeginsAtPoint next disk).
      held_at_holds_promise m config promise next [] next.process disk there begins.at) at) leaves

  pub savepoint_carries : SavepointCarries medium
  savepoint_carries m config less promise point records last old new no_more held leaves =
      carries m config less promise (medium old) (medium new) _ no_more
      (λ disk stands. held_at_holds_promise m config promise point records last disk held
      stands) leaves

  pub creation_carries : CreationCarries medium
  creation_carries m config promise point old new nothing created empty no_lines leaves =
      let held = fresh_is_held m config promise point nothing created empty no_lines in
      let P : DiskImage → Type 0 = λ disk. IsBlank disk ⊎ BeginsAtPoint point disk in
      let holds : (disk : DiskImage) → P disk → DiskImageHolds m config promise promise disk =
      λ disk at. ⊎_elim
      (λ (blank : IsBlank disk). inl (nothing, blank))
      (λ (begins : BeginsAtPoint point disk).
      inr (held_at_holds_promise m config promise point [] point.process disk held begins.at)) at in
      record {
        at_any_moment = leaves_weaker (medium old) (medium new) P
            (DiskImageHolds m config promise promise) leaves holds;
        in_the_end = λ image crashed.
            holds image (crashed_in_the_end (medium old) (medium new) P leaves image crashed);
      }

  pub begins_carried : BeginsCarried medium
  begins_carried m config promise point journal disk held goes = record {
    journaled = goes;
    held = held;
    answers = held.front;
    up_to = held.holds.up_to;
  }
