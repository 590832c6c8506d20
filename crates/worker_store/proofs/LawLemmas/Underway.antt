-- A worker in the middle of an act that takes steps: its steps, its lines and its questions.
use Rattle.std.proofs.Common.{◌≡◌, ℕ, ◌+◌, ◌≤◌, ◌<◌, Bool, true, false, List, [], ◌∷◌, ◌++◌, length}
use Rattle.std.proofs.Common.{take, refl, sym, ap, ◌∙◌, subst, arith, Option, Some, None, Ok, Err}
use Rattle.std.specs.Prelude.{slice_get}
use Rattle.std.proofs.Math.Nat.{le-max_left}
use Rattle.std.proofs.Math.Seq.{take-length, take-append_seam}
use Rattle.std.proofs.lemmas.Option.{slice_get_within}
use Rattle.std.proofs.lemmas.List.{append-nil, length-append}
use Rattle.wasm_syntax.specs.declared.module.Module.{Module}
use Rattle.wasi_abi.specs.declared.answer.Question.{Question}
use Rattle.wasi_abi.specs.rules.Configs.{Settings}
use Rattle.wasi_calls_rules.specs.WasiStates.{Line}
use Rattle.wasi_calls_rules.specs.laws.Laws.{Emits}
use Rattle.process_rules.specs.Processes.{ProcessState, Guest}
use Rattle.process_rules.specs.Runs.{Kept, Given, Runs, none, take as takes, Reaches}
use Rattle.process_rules.proofs.Quiet.{runs_join}
use Rattle.process_rules.proofs.Growing.{runs_count, runs_emit, move_counts, move_emits}
use Rattle.worker_store.specs.restart_theorem.Lives.{Act, Slice, Batch, Checkpoint, Upgrade}
use Rattle.worker_store.specs.restart_theorem.Lives.{SourceSaid, Release, Told, Asked, OfOutlet}
use Rattle.worker_store.specs.restart_theorem.Lives.{kept_of_said}
use Rattle.worker_store.specs.restart_theorem.Courses.{Phase, Shut, Unheard, Open, NoneThere}
use Rattle.worker_store.specs.restart_theorem.Courses.{Broken, Closed, Stage, next_stage}
use Rattle.worker_store.specs.restart_theorem.Courses.{first_taken, phase_asked, HasLastAsked}
use Rattle.worker_store.specs.restart_theorem.Courses.{phase_refused, IsToldIn, IsAskedIn}
use Rattle.worker_store.specs.restart_theorem.Courses.{ComesAfter, AreToldBy, IsWithinSlice}
use Rattle.worker_store.specs.restart_theorem.Promises.{Promise, after, fuel_of, IsOneOf, IsTelling}
use Rattle.worker_store.proofs.RestartLemmas.LastQuestions.{told_late}
use Rattle.worker_store.specs.laws.Acts.{TakesSteps, most_held}
use Rattle.worker_store.specs.laws.Underway.{IsInItsSlice, IsAtQuestion, HasLinesLeft, IsBroken}
use Rattle.worker_store.specs.laws.Underway.{standstill, LinesAreLeft, LeftIsBroken, StepsGoOn}
use Rattle.worker_store.specs.laws.Underway.{LinesAreTold, TakenLinesGoOn, RefusedLinesBreak}
use Rattle.worker_store.specs.laws.Underway.{QuestionsAreAsked, AnswersGoOn, AnswersAreKept}
use Rattle.worker_store.specs.laws.Underway.{OtherAnswersBreak, promise_asked, stage_asked}
use Rattle.worker_store.proofs.LawLemmas.Raising.{up_to_end}

-- a last line of this number is among as many lines
pub among_first : (line : Option ℕ) (last lines : ℕ) → line ≡ Some last → last ≤ lines
    → IsOneOf line lines
among_first line last lines is few = subst (λ (l : Option ℕ). IsOneOf l lines) (sym is) few

-- so many steps are within an act that takes them,
within_act : (act : Act) (acts : List Act) (step steps : ℕ) → TakesSteps act → step ≤ steps
    → steps ≤ step + fuel_of act → IsWithinSlice (act ∷ acts) step steps
within_act (Slice fuel) acts step steps stepping begun in_time = (begun, in_time)
within_act (Batch fuel most) acts step steps stepping begun in_time = (begun, in_time)
within_act Checkpoint acts step steps stepping begun in_time = absurd stepping
within_act Upgrade acts step steps stepping begun in_time = absurd stepping

-- and so are its lines, but for those that may wait
told_by : (act : Act) (acts : List Act) (told lines : ℕ) → TakesSteps act → told ≤ lines
    → lines ≤ told + most_held act → AreToldBy (act ∷ acts) (Some told) lines
told_by (Slice fuel) acts told lines stepping few many =
    ap (λ (n : ℕ). Some n) (omega (arith, few, many))
told_by (Batch fuel most) acts told lines stepping few many = (few, many)
told_by Checkpoint acts told lines stepping few many = absurd stepping
told_by Upgrade acts told lines stepping few many = absurd stepping

module _ (m : Module) (config : Settings) (guest : Guest) where
  -- ---- all kept answers

  all_runs : (promise : Promise) (stage : Stage) (act : Act) (p : ProcessState)
      (at : IsInItsSlice m config guest promise stage act (length promise.kept) p)
      → Runs guest at.start promise.kept p.steps p
  all_runs promise stage act p at =
      subst (λ kept. Runs guest at.start kept p.steps p) (take-length promise.kept) at.runs

  reached : (promise : Promise) (stage : Stage) (act : Act) (p : ProcessState)
      → IsInItsSlice m config guest promise stage act (length promise.kept) p
      → Reaches m config promise.kept p.steps p
  reached promise stage act p at = record {
    guest = guest;
    start = at.start;
    begins = at.begins;
    runs = all_runs promise stage act p at;
  }

  -- ---- steps

  pub steps_go_on : StepsGoOn m config guest
  steps_go_on promise stage act told n p q way runs within =
      let at = way.in_slice in
      let counted : q.steps ≡ p.steps + n = runs_count guest p q [] n runs in
      let more : Emits p.host q.host = runs_emit guest p q [] n runs in
      let kept : List Kept = take (length promise.kept) promise.kept in
      let joined : Runs guest at.start (kept ++ []) (p.steps + n) q =
      runs_join guest at.start p q kept [] p.steps n at.runs runs in
      record {
        in_slice = record {
          acts = at.acts;
          slice = at.slice;
          takes_steps = at.takes_steps;
          within = at.within;
          start = at.start;
          begins = at.begins;
          runs = subst (λ k. Runs guest at.start kept k q) (sym counted)
              (subst (λ l. Runs guest at.start l (p.steps + n) q) (append-nil kept) joined);
          begun = (let b = at.begun in omega (arith, b, counted));
          in_time = omega (arith, within, counted);
        };
        is_open = way.is_open;
        line = way.line;
        emitted = (let e = way.emitted in
            let long : length q.host.lines ≡ length p.host.lines + length more.lines =
            ap length more.are ∙ length-append p.host.lines more.lines in
            omega (arith, e, long));
        heard = way.heard;
        passed = way.passed;
      }

  -- ---- lines

  told_in : (stage : Stage) (act : Act) (acts : List Act) (steps : ℕ) → stage.phase ≡ Open
      → stage.acts ≡ act ∷ acts → TakesSteps act → stage.step ≤ steps
      → steps ≤ stage.step + fuel_of act → IsToldIn stage.phase stage.acts stage.step steps
  told_in stage act acts steps runs is stepping begun in_time =
      subst (λ z. IsToldIn z stage.acts stage.step steps) (sym runs)
      (subst (λ z. IsWithinSlice z stage.step steps) (sym is)
      (within_act act acts stage.step steps stepping begun in_time))

  -- the next line is told, where it is its time
  telling : (promise : Promise) (stage : Stage) (act : Act) (told : ℕ) (p : ProcessState)
      (line : Line) → IsInItsSlice m config guest promise stage act (length promise.kept) p
      → IsToldIn stage.phase stage.acts stage.step p.steps → stage.line ≡ Some told
      → told ≤ promise.heard → promise.passed ≤ told → slice_get p.host.lines told ≡ Some line
      → IsTelling m config promise stage (record { number = told + 1; line = line })
      (first_taken stage.takes)
  telling promise stage act told p line at in_time last heard passed is = record {
    is_line = record {
      answers = length promise.kept;
      steps = p.steps;
      process = p;
      reached = record {
        guest = guest;
        start = at.start;
        begins = at.begins;
        runs = at.runs;
      };
      up_to = up_to_end promise.kept p.steps;
      place = told;
      counted = refl;
      is = is;
    };
    in_time = in_time;
    follows = subst (λ z. ComesAfter z (told + 1)) (sym last) refl;
    none_skipped = omega (arith, heard);
    not_passed = omega (arith, passed);
    heard = refl;
  }

  pub lines_are_told : LinesAreTold m config guest
  lines_are_told promise stage act told p line way is =
      let at = way.in_slice in
      telling promise stage act told p line at
      (told_in stage act at.acts p.steps way.is_open at.slice at.takes_steps at.begun at.in_time)
      way.line way.heard way.passed is

  -- where a slice has come to, of another promise that has the same front of answers
  still_in : (promise promise' : Promise) (stage stage' : Stage) (act : Act) (held : ℕ)
      (p : ProcessState) → take held promise'.kept ≡ take held promise.kept
      → held ≤ length promise'.kept → stage'.acts ≡ stage.acts → stage'.step ≡ stage.step
      → IsInItsSlice m config guest promise stage act held p
      → IsInItsSlice m config guest promise' stage' act held p
  still_in promise promise' stage stage' act held p same within acts first at = record {
    acts = at.acts;
    slice = acts ∙ at.slice;
    takes_steps = at.takes_steps;
    within = within;
    start = at.start;
    begins = at.begins;
    runs = subst (λ z. Runs guest at.start z p.steps p) (sym same) at.runs;
    begun = (let b = at.begun in omega (arith, b, first));
    in_time = (let b = at.in_time in omega (arith, b, first));
  }

  -- behind a line
  still_told : (promise : Promise) (stage : Stage) (act : Act) (p : ProcessState) (r : Release)
      (is_taken : Bool) → IsInItsSlice m config guest promise stage act (length promise.kept) p
      → IsInItsSlice m config guest (after promise (Told r is_taken))
      (next_stage stage (Told r is_taken)) act (length promise.kept) p
  still_told promise stage act p r is_taken at =
      still_in promise (after promise (Told r is_taken)) stage (next_stage stage (Told r is_taken))
      act (length promise.kept) p refl at.within refl refl at

  pub taken_lines_go_on : TakenLinesGoOn m config guest
  taken_lines_go_on promise stage act told p line way is =
      let r : Release = record { number = told + 1; line = line } in
      let inside : told < length p.host.lines = slice_get_within p.host.lines told line is in
      record {
        in_slice = still_told promise stage act p r true way.in_slice;
        is_open = way.is_open;
        line = refl;
        emitted = omega (arith, inside);
        heard = le-max_left (told + 1) promise.heard;
        passed = (let h = way.passed in omega (arith, h));
      }

  pub refused_lines_break : RefusedLinesBreak m config guest
  refused_lines_break promise stage act told p r way among = record {
    in_slice = still_told promise stage act p r false way.in_slice;
    is = ap phase_refused way.is_open;
    told = among;
  }

  -- ---- questions

  asked_in : (stage : Stage) (act : Act) (acts : List Act) (steps : ℕ) → stage.phase ≡ Open
      → stage.acts ≡ act ∷ acts → TakesSteps act → stage.step ≤ steps
      → steps < stage.step + fuel_of act → IsAskedIn stage.phase stage.acts stage.step steps
  asked_in stage act acts steps runs is stepping begun in_time =
      subst (λ z. IsAskedIn z stage.acts stage.step steps) (sym runs)
      (subst (λ z. IsWithinSlice z stage.step steps × IsWithinSlice z stage.step (steps + 1))
      (sym is) (
        within_act act acts stage.step steps stepping begun (omega (arith, in_time)),
        within_act act acts stage.step (steps + 1) stepping (omega (arith, begun))
            (omega (arith, in_time)),
      ))

  -- no more lines wait where it asks than may
  all_told_in : (stage : Stage) (act : Act) (acts : List Act) (told lines : ℕ)
      → stage.acts ≡ act ∷ acts → stage.line ≡ Some told → TakesSteps act → told ≤ lines
      → lines ≤ told + most_held act → AreToldBy stage.acts stage.line lines
  all_told_in stage act acts told lines is line stepping few many =
      subst (λ (l : Option ℕ). AreToldBy stage.acts l lines) (sym line)
      (subst (λ (l : List Act). AreToldBy l (Some told) lines) (sym is)
      (told_by act acts told lines stepping few many))

  pub questions_are_asked : QuestionsAreAsked m config guest
  questions_are_asked promise stage act p question fits asks fitting =
      let at = asks.way.in_slice in
      record {
        process = p;
        reached = record {
          guest = guest;
          start = at.start;
          begins = at.begins;
          runs = all_runs promise stage act p at;
        };
        running = asks.running;
        wants = asks.wants;
        in_time = asked_in stage act at.acts p.steps asks.way.is_open at.slice at.takes_steps
            at.begun asks.room;
        all_told = all_told_in stage act at.acts asks.told (length p.host.lines) at.slice
            asks.way.line at.takes_steps asks.way.emitted asks.few;
        fitting = fitting;
        heard = refl;
      }

  -- a prefix of a longer list
  front_of_more : (kept more : List Kept)
      → take (length kept) (kept ++ more) ≡ take (length kept) kept
  front_of_more kept more = take-append_seam kept more ∙ sym (take-length kept)

  no_longer : (kept more : List Kept) → length kept ≤ length (kept ++ more)
  no_longer kept more = omega (arith, length-append kept more)

  -- where the process has taken none of what was said
  not_taken : (promise : Promise) (stage : Stage) (act : Act) (p : ProcessState)
      (question : Question) (said : SourceSaid) (fits : Bool)
      → IsAtQuestion m config guest promise stage act p question
      → IsInItsSlice m config guest (promise_asked m config guest promise p question said fits)
      (stage_asked m config guest stage p question said fits) act (length promise.kept) p
  not_taken promise stage act p question said fits asks =
      still_in promise (after promise (Asked p.steps question said fits)) stage
      (next_stage stage (Asked p.steps question said fits)) act (length promise.kept) p
      (front_of_more promise.kept (kept_of_said said fits))
      (no_longer promise.kept (kept_of_said said fits)) refl refl asks.way.in_slice

  -- the process has emitted each line that was told before the question
  all_among : (promise : Promise) (stage : Stage) (act : Act) (p : ProcessState)
      (question : Question) → IsAtQuestion m config guest promise stage act p question
      → IsOneOf stage.line (length p.host.lines)
  all_among promise stage act p question asks =
      among_first stage.line asks.told (length p.host.lines) asks.way.line asks.way.emitted

  pub answers_are_kept : AnswersAreKept m config guest
  answers_are_kept promise stage act p question a asks = record {
    in_slice = not_taken promise stage act p question (Ok (Some a)) true asks;
    is = refl;
    told = all_among promise stage act p question asks;
  }

  pub other_answers_break : OtherAnswersBreak m config guest
  other_answers_break promise stage act p question asks = record {
    misfit = λ a. record {
      in_slice = not_taken promise stage act p question (Ok (Some a)) false asks;
      is = refl;
      told = all_among promise stage act p question asks;
    };
    none_there = λ fits. record {
      in_slice = not_taken promise stage act p question (Ok None) fits asks;
      is = refl;
      told = all_among promise stage act p question asks;
    };
    fault = λ e fits. record {
      in_slice = not_taken promise stage act p question (Err e) fits asks;
      is = refl;
      told = all_among promise stage act p question asks;
    };
  }

  pub answers_go_on : AnswersGoOn m config guest
  answers_go_on promise stage act p q question a asks moves =
      let at = asks.way.in_slice in
      let counted : q.steps ≡ p.steps + 1 = move_counts guest p q (Some a) moves in
      let more : Emits p.host q.host = move_emits guest p q (Some a) moves in
      let kept : List Kept = promise.kept ++ Given a ∷ [] in
      let one : Runs guest p (Given a ∷ []) 1 q = takes moves none in
      let joined : Runs guest at.start kept (p.steps + 1) q =
      runs_join guest at.start p q promise.kept (Given a ∷ []) p.steps 1
      (all_runs promise stage act p at) one in
      record {
        in_slice = record {
          acts = at.acts;
          slice = at.slice;
          takes_steps = at.takes_steps;
          within = omega arith;
          start = at.start;
          begins = at.begins;
          runs = subst (λ l. Runs guest at.start l q.steps q) (sym (take-length kept))
              (subst (λ k. Runs guest at.start kept k q) (sym counted) joined);
          begun = (let b = at.begun in omega (arith, b, counted));
          in_time = (let r = asks.room in omega (arith, r, counted));
        };
        is_open = refl;
        line = asks.way.line;
        emitted = (let e = asks.way.emitted in
            let long : length q.host.lines ≡ length p.host.lines + length more.lines =
            ap length more.are ∙ length-append p.host.lines more.lines in
            omega (arith, e, long));
        heard = asks.way.heard;
        passed = asks.way.passed;
      }

  -- ---- lines that are left behind the last question of a batch

  -- nothing was kept then
  kept_no_more : (steps : ℕ) (said : SourceSaid) (fits : Bool)
      → HasLastAsked (phase_asked steps said fits) → kept_of_said said fits ≡ []
  kept_no_more steps (Ok (Some a)) true asked = absurd asked
  kept_no_more steps (Ok (Some a)) false asked = refl
  kept_no_more steps (Ok None) fits asked = refl
  kept_no_more steps (Err e) fits asked = refl

  pub lines_are_left : LinesAreLeft m config guest
  lines_are_left promise stage act p question said fits asks batch last =
      let more : List Kept = promise.kept ++ kept_of_said said fits in
      let same : more ≡ promise.kept =
      ap (λ (l : List Kept). promise.kept ++ l) (kept_no_more p.steps said fits last)
      ∙ append-nil promise.kept in
      record {
        in_slice = subst (λ (n : ℕ). IsInItsSlice m config guest
            (promise_asked m config guest promise p question said fits)
            (stage_asked m config guest stage p question said fits) act n p)
            (sym (ap (λ (l : List Kept). length l) same))
            (not_taken promise stage act p question said fits asks);
        batch = batch;
        asked = last;
        line = asks.way.line;
        emitted = asks.way.emitted;
        heard = asks.way.heard;
        passed = asks.way.passed;
      }

  pub left_is_broken : LeftIsBroken m config guest
  left_is_broken promise stage act told p left = record {
    in_slice = left.in_slice;
    is = refl;
    told = among_first stage.line told (length p.host.lines) left.line left.emitted;
  }

  pub left_lines_are_told : (promise : Promise) (stage : Stage) (act : Act) (told : ℕ)
      (p : ProcessState) (line : Line) → HasLinesLeft m config guest promise stage act told p
      → slice_get p.host.lines told ≡ Some line
      → IsTelling m config promise stage (record { number = told + 1; line = line })
      (first_taken stage.takes)
  left_lines_are_told promise stage act told p line left is =
      let at = left.in_slice in
      telling promise stage act told p line at
      (told_late stage.phase stage.acts stage.step p.steps left.asked left.batch
      (subst (λ (l : List Act). IsWithinSlice l stage.step p.steps) (sym at.slice)
      (within_act act at.acts stage.step p.steps at.takes_steps at.begun at.in_time)))
      left.line left.heard left.passed is

  pub taken_lines_are_left : (promise : Promise) (stage : Stage) (act : Act) (told : ℕ)
      (p : ProcessState) (line : Line) → HasLinesLeft m config guest promise stage act told p
      → slice_get p.host.lines told ≡ Some line
      → HasLinesLeft m config guest
      (after promise (Told (record { number = told + 1; line = line }) true))
      (next_stage stage (Told (record { number = told + 1; line = line }) true)) act (told + 1) p
  taken_lines_are_left promise stage act told p line left is =
      let r : Release = record { number = told + 1; line = line } in
      let inside : told < length p.host.lines = slice_get_within p.host.lines told line is in
      record {
        in_slice = still_told promise stage act p r true left.in_slice;
        batch = left.batch;
        asked = left.asked;
        line = refl;
        emitted = omega (arith, inside);
        heard = le-max_left (told + 1) promise.heard;
        passed = (let h = left.passed in omega (arith, h));
      }

  refused_late : (phase : Phase) → HasLastAsked phase → phase_refused phase ≡ Broken OfOutlet
  refused_late (NoneThere steps) asked = refl
  refused_late (Broken cause) asked = refl
  refused_late Shut asked = absurd asked
  refused_late Unheard asked = absurd asked
  refused_late Open asked = absurd asked
  refused_late (Closed cause) asked = absurd asked

  pub refused_lines_break_off : (promise : Promise) (stage : Stage) (act : Act) (told : ℕ)
      (p : ProcessState) (r : Release) → HasLinesLeft m config guest promise stage act told p
      → r.number ≤ length p.host.lines
      → IsBroken m config guest (after promise (Told r false)) (next_stage stage (Told r false)) act
      (standstill (length promise.kept) p (Broken OfOutlet))
  refused_lines_break_off promise stage act told p r left among = record {
    in_slice = still_told promise stage act p r false left.in_slice;
    is = refused_late stage.phase left.asked;
    told = among;
  }
