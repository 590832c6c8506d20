-- Honest stories keep all promises.
use Rattle.std.proofs.Common.{◌≡◌, ◌≤◌, ℕ, Bool, true, false, List, [], ◌∷◌, Some}
use Rattle.std.proofs.Common.{inr, refl, sym, ap, arith}
use Rattle.wasm_syntax.specs.declared.module.Module.{Module}
use Rattle.wasi_abi.specs.rules.Configs.{Settings}
use Rattle.process_rules.specs.Runs.{Kept, Given}
use Rattle.worker_store.specs.restart_theorem.Lives.{Act, Slice, Checkpoint, Inputs}
use Rattle.worker_store.specs.restart_theorem.Lives.{Done, Event, Told, Opened, Ended, Creates}
use Rattle.worker_store.specs.restart_theorem.Courses.{at_first, at_beginning, stage_after}
use Rattle.worker_store.specs.restart_theorem.Courses.{first_taken}
use Rattle.worker_store.specs.restart_theorem.Promises.{Promise, nothing_yet, promised, promised_by}
use Rattle.worker_store.specs.restart_theorem.Promises.{IsKept, AreKept, IsLived}
use Rattle.worker_store.specs.restart_theorem.laws.Refused.{in_peace, creation_begun}
use Rattle.worker_store.specs.restart_theorem.laws.Honest.{Teller, both_requests, both_told}
use Rattle.worker_store.specs.restart_theorem.laws.Honest.{line_one, begin_life, replaying_life}
use Rattle.worker_store.specs.restart_theorem.laws.Honest.{quiet_life, cut_recovery, poor_recovery}
use Rattle.worker_store.specs.restart_theorem.laws.Honest.{saving_life, later_life, refused_life}
use Rattle.worker_store.specs.restart_theorem.laws.Honest.{telling_life, slice_42, nothing_to_do}
use Rattle.worker_store.specs.restart_theorem.laws.Honest.{HonestStories}
use Rattle.worker_store.proofs.RestartLemmas.Events.{never, all_held, opens_at, tells, asks, ends}
use Rattle.worker_store.proofs.RestartLemmas.Events.{spent, waits, only_opens}

module _ {m : Module} {config : Settings} (t : Teller m config) where
  abbrev pub kept_one : List Kept
  kept_one = Given t.hello ∷ []

  abbrev pub kept_both : List Kept
  kept_both = Given t.hello ∷ Given t.world ∷ []

  -- ---- the first life

  -- the first opening, whatever is put into the life
  pub opens : (inputs : Inputs) → IsKept m config creation_begun (at_beginning Creates inputs)
      (Opened 0 t.fresh.saved)
  opens inputs =
      let l = t.fresh.lines_are in
      opens_at refl refl refl t.fresh.at (all_held 0 t.fresh.at refl (λ n. tt)
      (omega arith) (omega arith) (omega arith)) (omega (arith, l))

  -- a slice of 42 steps, and more
  abbrev given : List Bool → List Act → Inputs
  given takes acts = record (in_peace (both_requests t) (Slice 42 ∷ acts)) { takes = takes }

  -- it tells both lines, whatever comes then
  sliced : (acts : List Act) (more : List Event)
      → AreKept m config (promised creation_begun (both_told t []))
      (stage_after (at_beginning Creates (given [] acts)) (both_told t [])) more
      → AreKept m config creation_begun (at_beginning Creates (given [] acts)) (both_told t more)
  sliced acts more then =
      let e = t.fresh.counted in
      let l = t.fresh.lines_are in
      let f = t.later.counted in
      let first = t.has_first.early in
      let second = t.has_second.early in (
        opens (given [] acts),
        (
          asks t.asks_first ((omega arith, omega arith), (omega arith, omega arith))
              (ap (λ (n : ℕ). Some n) l) t.asks_first.fits refl,
          (
            tells 1 t.has_first tt (omega arith, omega arith) (omega arith) (omega arith)
                (omega arith) refl,
            (
              asks t.asks_second ((omega arith, omega arith), (omega arith, omega arith)) refl
                  t.asks_second.fits refl,
              (
                tells 2 t.has_second tt (omega arith, omega arith) refl (omega arith) (omega arith)
                    refl,
                (
                  ends refl t.later.at refl (omega arith) (omega arith)
                      (spent 42 t.later refl (omega arith) refl refl) (λ at. tt),
                  then,
                ),
              ),
            ),
          ),
        ),
      )

  works : IsLived m config nothing_yet (slice_42 t) (begin_life t)
  works = record {
    kept = sliced [] [] tt;
    ends = (refl, refl, tt);
    begins = λ creates. (refl, (refl, t.fresh.counted));
  }

  -- ---- restarts from the journal

  -- A recovery tells the first line again,
  pub retells : (so_far : Promise) (inputs : Inputs) → so_far.passed ≡ 0
      → true ≡ first_taken inputs.takes
      → IsKept m config (record so_far { kept = kept_both }) (at_first inputs)
      (Told (line_one t) true)
  retells so_far inputs none heard =
      tells 1 t.has_first tt tt tt (omega arith) (omega (arith, none)) heard

  -- and opens with both answers.
  pub retelling : (so_far : Promise) → so_far.answers ≤ 2 → so_far.steps ≤ t.replayed.saved.steps
      → so_far.begun ≤ 2 → so_far.passed ≡ 0 → so_far.was_created ≡ true
      → IsLived m config (record so_far { kept = kept_both }) (nothing_to_do t) (replaying_life t)
  retelling so_far answers many few none created =
      let l = t.replayed.lines_are in
      let k = t.later.lines_are in
      record {
        kept = (
          retells so_far (nothing_to_do t) none refl,
          (
            record {
              shut = refl;
              created = created;
              at = t.replayed.at;
              holds = all_held 2 t.later.at refl (λ n. tt) answers many (omega (arith, few, k));
              all_heard = omega (arith, l);
              none_beyond = sym l;
              no_further = inr (record {
                others = kept_one;
                last = t.world;
                are = refl;
                before = 27;
                next = t.replayed.counted;
                process = t.asks_second.process;
                reached = t.asks_second.reached;
                question = t.question;
                wants = t.asks_second.wants;
              });
            },
            tt,
          ),
        );
        ends = (refl, refl, tt);
        begins = λ creates. never creates;
      }

  abbrev then_promised : Promise
  then_promised = promised_by nothing_yet (begin_life t)

  restarts_quietly : IsLived m config (promised_by then_promised (replaying_life t))
      (nothing_to_do t) (quiet_life t)
  restarts_quietly =
      let e = t.fresh.counted in
      let l = t.replayed.lines_are in
      let k = t.later.lines_are in
      only_opens refl t.replayed.at (all_held 2 t.later.at refl (λ n. tt) (omega arith)
      (omega arith) (omega arith)) (omega arith)

  -- ---- a life cut inside its recovery, and one that wants memory

  abbrev stopped_at_20 : Inputs
  stopped_at_20 = record (nothing_to_do t) { stop = Some 20 }

  abbrev behind_cut : Promise
  behind_cut = promised_by then_promised (cut_recovery t)

  abbrev behind_want : Promise
  behind_want = promised_by behind_cut (poor_recovery t)

  cut_short : IsLived m config then_promised stopped_at_20 (cut_recovery t)
  cut_short = let l = t.fresh.lines_are in record {
    kept = (retells then_promised stopped_at_20 (omega (arith, l)) refl, tt);
    ends = (tt, omega arith);
    begins = λ creates. never creates;
  }

  wants_memory : IsLived m config behind_cut (nothing_to_do t) (poor_recovery t)
  wants_memory = record { kept = tt; ends = (tt, tt, tt); begins = λ creates. never creates }

  -- ---- a checkpoint before the cut

  works_and_saves : IsLived m config nothing_yet (given [] (Checkpoint ∷ [])) (saving_life t)
  works_and_saves = record {
    kept = sliced (Checkpoint ∷ []) (Ended Checkpoint Done 2 t.later.saved ∷ []) (
      ends refl t.later.at refl (omega arith) (omega arith) (
        refl,
        refl,
        record { all_taken = refl; all_told = ap (λ (n : ℕ). Some n) (sym t.later.lines_are) },
      ) (λ at. tt),
      tt,
    );
    ends = (refl, refl, tt);
    begins = λ creates. (refl, (refl, t.fresh.counted));
  }

  restarts_saved : IsLived m config (promised_by nothing_yet (saving_life t)) (nothing_to_do t)
      (later_life t)
  restarts_saved =
      let e = t.fresh.counted in
      let l = t.later.lines_are in
      only_opens refl t.later.at (all_held 2 t.later.at refl (λ n. tt) (omega arith) (omega arith)
      (omega arith)) (omega arith)

  -- ---- an outlet that refuses a line

  refuses : IsLived m config nothing_yet (given (false ∷ []) []) (refused_life t)
  refuses =
      let e = t.fresh.counted in
      let l = t.fresh.lines_are in
      let f = t.emitted.counted in
      let k = t.emitted.lines_are in
      let early = t.has_first.early in
      record {
        kept = (
          opens (given (false ∷ []) []),
          (
            asks t.asks_first ((omega arith, omega arith), (omega arith, omega arith))
                (ap (λ (n : ℕ). Some n) l) t.asks_first.fits refl,
            (
              tells 1 t.has_first tt (omega arith, omega arith) (omega arith) (omega arith)
                  (omega arith) refl,
              (
                ends refl t.emitted.at refl (omega arith) (omega arith)
                    (refl, omega arith, omega arith) (λ at. tt),
                tt,
              ),
            ),
          ),
        );
        ends = (refl, tt, tt);
        begins = λ creates. (refl, (refl, e));
      }

  tells_now : IsLived m config (promised_by nothing_yet (refused_life t))
      (in_peace [] (Slice 22 ∷ [])) (telling_life t)
  tells_now =
      let e = t.fresh.counted in
      let l = t.fresh.lines_are in
      let f = t.answered.counted in
      let k = t.answered.lines_are in
      let k' = t.emitted.lines_are in
      let g = t.asking.counted in
      let late = t.has_first.late in
      let early = t.has_first.early in
      record {
        kept = (
          opens_at refl refl refl t.answered.at (all_held 1 t.emitted.at refl (λ n. tt)
              (omega arith) (omega arith) (omega arith)) (omega arith),
          (
            tells 1 t.has_first tt (omega arith, omega arith) (omega arith) (omega arith)
                (omega arith) refl,
            (
              asks t.asks_second ((omega arith, omega arith), (omega arith, omega arith)) refl tt
                  refl,
              (
                ends refl t.asking.at refl (omega arith) (omega arith)
                    (waits 22 t.asking refl (omega arith) refl refl) (λ at. tt),
                tt,
              ),
            ),
          ),
        );
        ends = (refl, refl, tt);
        begins = λ creates. never creates;
      }

  pub honest_stories : HonestStories t
  honest_stories =
      let e = t.fresh.counted in
      let l = t.fresh.lines_are in
      record {
        replayed = (
          works,
          (
            retelling then_promised (omega arith) (omega (arith, e)) (omega arith)
                (omega (arith, l)) refl,
            (restarts_quietly, tt),
          ),
        );
        saved = (works_and_saves, (restarts_saved, tt));
        in_the_end = (
          works,
          (
            cut_short,
            (
              wants_memory,
              (
                retelling behind_want (omega arith) (omega (arith, e)) (omega arith)
                    (omega (arith, l)) refl,
                tt,
              ),
            ),
          ),
        );
        told_again = (refuses, (tells_now, tt));
      }
