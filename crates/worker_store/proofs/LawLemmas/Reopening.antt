-- A worker that is recovered or created.
use Rattle.std.proofs.Common.{◌≡◌, ◌⊎◌, ℕ, ◌+◌, ◌≤◌, ◌<◌, max, List, [], ◌∷◌, ◌++◌}
use Rattle.std.proofs.Common.{length, map, drop, take, refl, sym, ap, ◌∙◌, subst, arith}
use Rattle.std.proofs.Common.{Bool, true, false, Option, Some, None, Ok, Err}
use Rattle.std.specs.Prelude.{slice_get}
use Rattle.std.proofs.Math.Nat.{le-max_left}
use Rattle.std.proofs.lemmas.Option.{slice_get_within}
use Rattle.wasm_syntax.specs.declared.module.Module.{Module}
use Rattle.wasi_abi.specs.rules.Configs.{Settings}
use Rattle.wasi_calls_rules.specs.WasiStates.{Line}
use Rattle.wasm_rules.specs.Configuration.{Thread}
use Rattle.wasi_calls_rules.specs.Lines.{rest_of}
use Rattle.wasi_calls_rules.specs.declared.output_stream.OutputStream.TheVariants.{Stdout, Stderr}
use Rattle.process_rules.specs.Processes.{ProcessState, Guest, IsStart, closed_at}
use Rattle.process_rules.specs.Behind.{IsNarrowTo}
use Rattle.process_rules.specs.Runs.{Runs, none}
use Rattle.process_rules.proofs.Growing.{start_counts}
use Rattle.record_replay.specs.rules.Calls.{Tells, all_taken}
use Rattle.worker_store.specs.restart_theorem.Lives.{Release, Told}
use Rattle.worker_store.specs.restart_theorem.Courses.{Stage, Unheard, first_taken, next_stage}
use Rattle.worker_store.specs.restart_theorem.Courses.{IsLast, IsToldIn, ComesAfter, phase_refused}
use Rattle.worker_store.specs.restart_theorem.Promises.{Promise, after, HoldsAll, IsTelling}
use Rattle.worker_store.specs.restart_theorem.Promises.{TakesLast}
use Rattle.worker_store.specs.rules.BetweenCalls.{IsForetold}
use Rattle.worker_store.specs.laws.Telling.{ArePerformed}
use Rattle.worker_store.specs.laws.Reopening.{IsReviving, LinesAreRetold, LinesAreRetoldInVain}
use Rattle.worker_store.specs.laws.Reopening.{LivesOpen, FreshHoldsNothing, FreshLivesBegin}
use Rattle.worker_store.proofs.LawLemmas.Telling.{is_next, all_dropped, performed_more}
use Rattle.worker_store.proofs.LawLemmas.Telling.{performed_none, until}

-- the number after the last one
follows : (line : Option ℕ) (told : ℕ) → IsLast line told → ComesAfter line (told + 1)
follows None told last = tt
follows (Some k) told last = ap (λ z. z + 1) (sym last)

-- what has just begun has emitted no line
lines_closed : (thread : Thread) (later : List ℕ) (p : ProcessState) → p.host.lines ≡ []
    → p.host.first ≡ [] → p.host.second ≡ [] → length (closed_at thread later p).host.lines ≡ 0
lines_closed [] [] p lines first second =
    ap length (ap (λ z. z ++ (rest_of Stdout p.host.first ++ rest_of Stderr p.host.second)) lines
    ∙ (ap (λ z. rest_of Stdout z ++ rest_of Stderr p.host.second) first
    ∙ ap (λ z. rest_of Stderr z) second))
lines_closed (f ∷ thread) later p lines first second = ap length lines
lines_closed [] (f ∷ later) p lines first second = ap length lines

no_sync : (k before : ℕ) → k ≤ 0 → k ≡ before + 1 → ⊥
no_sync k before few is = omega (arith, few, is)

module _ (m : Module) (config : Settings) (guest : Guest) where
  -- the line at a place, which counts from 0, is that of the number after it
  one_retold : (promise : Promise) (stage : Stage) (held place : ℕ) (p : ProcessState)
      (line : Line) (number : ℕ) (is_taken : Bool) → number ≡ place + 1
      → is_taken ≡ first_taken stage.takes → IsReviving m config guest promise stage held place p
      → slice_get p.host.lines place ≡ Some line
      → IsTelling m config promise stage (record { number = number; line = line }) is_taken
  one_retold promise stage held place p line number is_taken same heard at is = record {
    is_line = record {
      answers = held;
      steps = p.steps;
      process = p;
      reached = record { guest = guest; start = at.start; begins = at.begins; runs = at.runs };
      up_to = at.up_to;
      place = place;
      counted = same;
      is = is;
    };
    in_time = subst (λ z. IsToldIn z stage.acts stage.step p.steps) (sym at.shut) tt;
    follows = subst (λ n. ComesAfter stage.line n) (sym same)
        (follows stage.line place at.last);
    none_skipped = (let h = at.heard in omega (arith, h, same));
    not_passed = (let h = at.passed in omega (arith, h, same));
    heard = heard;
  }

  one_heard : (promise : Promise) (stage : Stage) (held place : ℕ) (p : ProcessState)
      (line : Line) (number : ℕ) → number ≡ place + 1
      → IsReviving m config guest promise stage held place p
      → slice_get p.host.lines place ≡ Some line
      → IsReviving m config guest
      (after promise (Told (record { number = number; line = line }) true))
      (next_stage stage (Told (record { number = number; line = line }) true)) held (place + 1) p
  one_heard promise stage held place p line number same at is =
      let inside : place < length p.host.lines = slice_get_within p.host.lines place line is in
      record {
        within = at.within;
        start = at.start;
        begins = at.begins;
        runs = at.runs;
        up_to = at.up_to;
        shut = at.shut;
        last = same;
        emitted = omega (arith, inside);
        heard = (let h : number ≤ max number promise.heard = le-max_left number promise.heard in
            omega (arith, h, same));
        passed = (let h = at.passed in omega (arith, h));
      }

  told_from : (promise : Promise) (stage : Stage) (held place number : ℕ) (p : ProcessState)
      (lines : List Line) → IsReviving m config guest promise stage held place p
      → number ≡ place + 1 → drop place p.host.lines ≡ lines
      → IsForetold stage (map Tells (all_taken number lines))
      → (made : ArePerformed m config promise stage (length p.host.lines)
      (map Tells (all_taken number lines)))
      × IsReviving m config guest made.promise' made.stage' held (length p.host.lines) p
  told_from promise stage held place number p [] at same is foretold = (
    performed_none m config guest promise stage (length p.host.lines),
    subst (λ k. IsReviving m config guest promise stage held k p)
        (all_dropped p.host.lines place at.emitted is) at,
  )
  told_from promise stage held place number p (line ∷ lines) at same is foretold =
      let next = is_next p.host.lines lines line place is in
      let inside : place < length p.host.lines =
      slice_get_within p.host.lines place line next.0 in
      let r : Release = record { number = number; line = line } in
      let rest = told_from (after promise (Told r true)) (next_stage stage (Told r true)) held
      (place + 1) (number + 1) p lines
      (one_heard promise stage held place p line number same at next.0)
      (ap (λ n. n + 1) same) next.1 foretold.1 in (
        performed_more m config guest promise stage (length p.host.lines)
            (record { number = number; line = line; said = Ok tt })
            (map Tells (all_taken (number + 1) lines)) (omega (arith, same, inside))
            (one_retold promise stage held place p line number true same foretold.0 at next.0)
            rest.0,
        rest.1,
      )

  pub lines_are_retold : LinesAreRetold m config guest
  lines_are_retold promise stage held told number p lines at same is foretold =
      told_from promise stage held told number p lines at same is foretold

  told_until : (promise : Promise) (stage : Stage) (held place : ℕ) (p : ProcessState)
      (first others : List Line) (line : Line) (number last : ℕ) → number ≡ place + 1
      → last ≡ number + length first → IsReviving m config guest promise stage held place p
      → drop place p.host.lines ≡ first ++ (line ∷ others)
      → IsForetold stage (map Tells (until number last first line))
      → (made : ArePerformed m config promise stage (length p.host.lines)
      (map Tells (until number last first line)))
      × (made.stage'.phase ≡ Unheard)
  told_until promise stage held place p [] others line number last same is_last at is foretold =
      let next = is_next p.host.lines others line place is in
      let inside : place < length p.host.lines =
      slice_get_within p.host.lines place line next.0 in
      let r : Release = record { number = last; line = line } in
      let here : last ≡ place + 1 = omega (arith, is_last, same) in (
        performed_more m config guest promise stage (length p.host.lines)
            (record { number = last; line = line; said = Err (record {}) }) []
            (omega (arith, here, inside))
            (one_retold promise stage held place p line last false here foretold.0 at next.0)
            (performed_none m config guest (after promise (Told r false))
            (next_stage stage (Told r false))
            (length p.host.lines)),
        ap phase_refused at.shut,
      )
  told_until promise stage held place p (x ∷ first) others line number last same is_last at is
      foretold =
      let next = is_next p.host.lines (first ++ (line ∷ others)) x place is in
      let inside : place < length p.host.lines =
      slice_get_within p.host.lines place x next.0 in
      let r : Release = record { number = number; line = x } in
      let rest = told_until (after promise (Told r true)) (next_stage stage (Told r true)) held
      (place + 1) p first others line (number + 1) last (ap (λ n. n + 1) same)
      (omega (arith, is_last)) (one_heard promise stage held place p x number same at next.0)
      next.1 foretold.1 in (
        performed_more m config guest promise stage (length p.host.lines)
            (record { number = number; line = x; said = Ok tt })
            (map Tells (until (number + 1) last first line)) (omega (arith, same, inside))
            (one_retold promise stage held place p x number true same foretold.0 at next.0) rest.0,
        rest.1,
      )

  pub lines_are_retold_in_vain : LinesAreRetoldInVain m config guest
  lines_are_retold_in_vain promise stage held told number p first others line at same is foretold =
      told_until promise stage held told p first others line number (number + length first) same
      refl at is foretold

  -- ---- the opening

  pub lives_open : LivesOpen m config guest
  lives_open promise stage held p shown at saved created holds further =
      let steps : shown.steps ≡ p.steps = saved.shows.steps in
      let lines : shown.lines ≡ length p.host.lines = saved.shows.lines in (
        record {
          shut = at.shut;
          created = created;
          at = record {
            process = p;
            reached = record {
              guest = guest;
              start = at.start;
              begins = at.begins;
              runs = subst (λ n. Runs guest at.start (take held promise.kept) n p) (sym steps)
                  at.runs;
            };
            functions = saved.functions;
            function_types = saved.function_types;
            table = saved.table;
            shown = saved.shows;
          };
          holds = subst (λ n. HoldsAll m config promise.kept promise held n) (sym steps) holds;
          all_heard = (let h = at.heard in omega (arith, h, lines));
          none_beyond = subst (λ n. IsLast stage.line n) (sym lines) at.last;
          no_further = subst (λ n. (stage.line ≡ None)
              ⊎ TakesLast m config (take held promise.kept) n) (sym steps) further;
        },
        record {
          start = at.start;
          begins = at.begins;
          runs = at.runs;
          is_open = refl;
          step = steps;
          line = ap (λ n. Some n) lines;
        },
      )

  pub no_lines : (p : ProcessState) → IsStart m config guest p → length p.host.lines ≡ 0
  no_lines p start =
      ap (λ z. length z.host.lines) start.is
      ∙ lines_closed start.first.thread start.first.later _ refl refl refl

  pub fresh_holds_nothing : FreshHoldsNothing m config guest
  fresh_holds_nothing promise start nothing begins =
      subst (λ z. HoldsAll m config z.kept z 0 start.steps) (sym nothing) (record {
        within = omega arith;
        up_to = tt;
        answers = omega arith;
        steps_held = omega arith;
        lines = λ i few. (
          0,
          omega arith,
          record {
            within = omega arith;
            steps = start.steps;
            process = start;
            reached = record {
              guest = guest;
              start = start;
              begins = begins;
              runs =
                  subst (λ n. Runs guest start [] n start)
                  (sym (start_counts m config guest start begins)) none;
            };
            up_to = tt;
            emitted = omega (arith, few);
          },
        );
        syncs = λ k a few behind. absurd (no_sync k behind.before few behind.next);
      })

  pub fresh_lives_begin : FreshLivesBegin m config guest
  fresh_lives_begin promise inputs start nothing begins =
      let lines = no_lines start begins in
      record {
        within = omega arith;
        start = start;
        begins = begins;
        runs =
            subst (λ n. Runs guest start [] n start)
            (sym (start_counts m config guest start begins)) none;
        up_to = subst (λ (z : Promise). IsNarrowTo z.kept start.steps) (sym nothing) tt;
        shut = refl;
        last = tt;
        emitted = omega arith;
        heard = omega (arith, lines);
        passed = (let is : promise.passed ≡ 0 = ap (λ z. z.passed) nothing in
            omega (arith, is));
      }
