-- The lives of `hello` go on, and what is no life of it.
use Rattle.std.proofs.Common.{◌≡◌, inl, inr, ℕ, ◌+◌, ◌≤◌, ◌^◌, true, List, [], ◌∷◌, length}
use Rattle.std.proofs.Common.{Some, None, refl, sym, ap, ◌∙◌, subst, arith, length-append}
use Rattle.std.specs.Prelude.{slice_get, codes, take as firsts}
use Rattle.std.proofs.lemmas.Option.{slice_get_within, same_Some}
use Rattle.wasm_syntax.specs.laws.Examples.{hello}
use Rattle.wasm_rules.specs.Steps.{IsEnded}
use Rattle.wasi_abi.specs.rules.Configs.{Settings}
use Rattle.wasi_abi.specs.declared.answer.Question.{Question}
use Rattle.wasi_calls_rules.specs.WasiStates.{Line}
use Rattle.wasi_calls_rules.specs.declared.output_stream.OutputStream.TheVariants.{Stdout, Stderr}
use Rattle.process_rules.specs.Processes.{ProcessState, Guest, Exited}
use Rattle.process_rules.specs.Runs.{Kept, Wants, Runs, Reaches, next_of}
use Rattle.process_rules.specs.Behind.{IsLine}
use Rattle.process_rules.specs.laws.Examples.{hello_end}
use Rattle.process_rules.proofs.ExamplesValid.{hello_is_valid}
use Rattle.process_rules.proofs.ExamplesHold.{hello_ends}
use Rattle.process_rules.proofs.Quiet.{none_counted}
use Rattle.process_rules.proofs.Growing.{runs_emit}
use Rattle.worker_store.specs.restart_theorem.Lives.{Act, Slice, Checkpoint, Inputs, Over, Done}
use Rattle.worker_store.specs.restart_theorem.Lives.{Event, Told, Opened, Ended, Beginning}
use Rattle.worker_store.specs.restart_theorem.Lives.{Recovers}
use Rattle.worker_store.specs.restart_theorem.Courses.{Stage, Shut, at_beginning, stage_after}
use Rattle.worker_store.specs.restart_theorem.Promises.{Promise, nothing_yet, promised, promised_by}
use Rattle.worker_store.specs.restart_theorem.Promises.{IsKept, AreKept, IsLived}
use Rattle.worker_store.specs.restart_theorem.laws.Refused.{in_peace, creation_begun}
use Rattle.worker_store.specs.restart_theorem.laws.Honest.{HasLine}
use Rattle.worker_store.specs.restart_theorem.laws.WholeLives.{hi_told, hello_first, hello_last}
use Rattle.worker_store.specs.restart_theorem.laws.WholeLives.{cut_inputs, cut_life, last_inputs}
use Rattle.worker_store.specs.restart_theorem.laws.WholeLives.{last_life, ended_inputs, ended_life}
use Rattle.worker_store.specs.restart_theorem.laws.WholeLives.{HelloLives}
use Rattle.worker_store.proofs.RestartLemmas.Abreast.{stays_put, stays_asking}
use Rattle.worker_store.proofs.RestartLemmas.Fronts.{OneLeadsOn, fronts_lead_on, one_line}
use Rattle.worker_store.proofs.RestartLemmas.Fronts.{front_of_none, none_widens}
use Rattle.worker_store.proofs.RestartLemmas.Events.{never, all_held, opens_at, line_of, tells}
use Rattle.worker_store.proofs.RestartLemmas.Events.{ends}
use Rattle.worker_store.proofs.RestartLemmas.HelloShown.{at_first_step, at_last_step}

-- ---- the process at the end

pub record HelloEnd (config : Settings) : Type 0 where
  pub process : ProcessState
  pub reached : Reaches hello config [] 8 process
  pub lines : process.host.lines ≡ hi_told.line ∷ []
  pub over : process.ended ≡ Some (Exited 7)
  pub rests : IsEnded process.configuration
  pub no_other : (other : ProcessState) → Reaches hello config [] 8 other → other ≡ process

pub hello_at_end : (config : Settings) → HelloEnd config
hello_at_end config =
    let ends = hello_ends config in
    record {
      process = hello_end config;
      reached = ends.comes.reached;
      lines = refl;
      over = refl;
      rests = record { returned = refl; nothing_later = refl };
      no_other = ends.comes.no_other;
    }

-- its line, by its last step
abbrev pub hello_line : (config : Settings) → HasLine hello config [] 0 0 8 hi_told.line
hello_line config = let end = hello_at_end config in record {
  steps = 8;
  late = omega arith;
  early = omega arith;
  process = end.process;
  reached = end.reached;
  is = ap (λ (z : List Line). slice_get z 0) end.lines;
}

-- ---- what is no life

-- after the end there is nothing
end_stays : (guest : Guest) (p q : ProcessState) (kept : List Kept) (n : ℕ) → Runs guest p kept n q
    → kept ≡ [] → p.ended ≡ Some (Exited 7) → q ≡ p
end_stays guest p q kept n runs e over =
    stays_put guest p q kept n runs e (λ next moves. (let running = moves.running in cc))

wants_nothing : (guest : Guest) (p : ProcessState) (question : Question) → IsEnded p.configuration
    → next_of guest p None ≡ Wants question → ⊥
wants_nothing guest p question rests wants =
    let stuck = none_counted guest.program p.configuration rests in
    let asks = wants in
    let nowhere = (rw stuck at asks) in
    cc

-- nor does anything want an answer that leads there without one
wants_none : (guest : Guest) (p q : ProcessState) (question : Question) (kept : List Kept) (n : ℕ)
    → Runs guest p kept n q → kept ≡ [] → IsEnded q.configuration
    → next_of guest p None ≡ Wants question → ⊥
wants_none guest p q question kept n runs e rests wants =
    wants_nothing guest p question (subst (λ (z : ProcessState). IsEnded z.configuration)
    (stays_asking guest p q question kept n runs e wants) rests) wants

asks_nothing : (config : Settings) (n : ℕ) (p : ProcessState) (question : Question)
    → (reached : Reaches hello config [] n p) → next_of reached.guest p None ≡ Wants question → ⊥
asks_nothing config n p question reached wants =
    go (fronts_lead_on hello config [] 0 0 n 8 p end.process hello_is_valid reached end.reached tt
    tt)
  where
    end : HelloEnd config
    end = hello_at_end config

    go : OneLeadsOn reached.guest p end.process [] [] → ⊥
    go (inl on) = wants_none reached.guest p end.process question on.kept on.steps on.runs on.front
        end.rests wants
    go (inr on) =
        wants_nothing reached.guest p question
        (subst (λ z. IsEnded z.configuration)
        (sym (end_stays reached.guest end.process p on.kept on.steps on.runs on.front end.over))
        end.rests) wants

-- no process of `hello` has a second line
one_line_at_most : (config : Settings) (answers n : ℕ) (p : ProcessState)
    → Reaches hello config (firsts answers []) n p → length p.host.lines ≤ 1
one_line_at_most config answers n p reached =
    go (fronts_lead_on hello config [] answers 0 n 8 p end.process hello_is_valid reached
    end.reached (none_widens answers n) tt)
  where
    end : HelloEnd config
    end = hello_at_end config

    end_lines : length end.process.host.lines ≡ 1
    end_lines = ap length end.lines

    go : OneLeadsOn reached.guest p end.process (firsts answers []) [] → length p.host.lines ≤ 1
    go (inl on) =
        let emits = runs_emit reached.guest p end.process on.kept on.steps on.runs in
        let counted : length end.process.host.lines ≡ length p.host.lines + length emits.lines =
        ap length emits.are ∙ length-append p.host.lines emits.lines in
        omega (arith, counted, end_lines)
    go (inr on) =
        let same : length p.host.lines ≡ length end.process.host.lines =
        ap (λ (z : ProcessState). length z.host.lines)
        (end_stays reached.guest end.process p on.kept on.steps on.runs
        (on.front ∙ front_of_none answers) end.over) in
        omega (arith, same, end_lines)

no_second_line : (config : Settings) (line : Line) → IsLine hello config [] 2 line → ⊥
no_second_line config line is =
    let few = one_line_at_most config is.answers is.steps is.process is.reached in
    let there = slice_get_within is.process.host.lines is.place line is.is in
    let counted = is.counted in
    omega (arith, few, there, counted)

no_other_line : (config : Settings) (line : Line) → IsLine hello config [] 1 line
    → line.stream ≡ Stderr → ⊥
no_other_line config line is second =
    let same : line.stream ≡ Stdout = ap (λ (l : Line). l.stream)
    (one_line hello config [] 1 line hi_told.line hello_is_valid is
    (line_of 0 (hello_line config) tt)) in
    absurd (cc)

-- what is reached in eight steps is the end
at_eight : (config : Settings) (n : ℕ) (p : ProcessState) → n ≡ 8 → Reaches hello config [] n p
    → p ≡ (hello_at_end config).process
at_eight config n p eight reached =
    (hello_at_end config).no_other p (subst (λ z. Reaches hello config [] z p) eight reached)

one_line_there : (config : Settings) (n : ℕ) (p : ProcessState) → n ≡ 8
    → Reaches hello config [] n p → length p.host.lines ≡ 1
one_line_there config n p eight reached =
    ap (λ (z : ProcessState). length z.host.lines) (at_eight config n p eight reached)
    ∙ ap length (hello_at_end config).lines

code_of : (code : ℕ) → Some (Exited code) ≡ Some (Exited 7) → code ≡ 7
code_of code same = cc

-- ---- the lives

module _ (config : Settings) (some : 1 ≤ config.pages) (few : config.pages ≤ 2 ^ 16) where
  -- it begins where nothing was promised but its line
  pub begins : (so_far : Promise) {stage : Stage} → stage.phase ≡ Shut → stage.line ≡ None
      → so_far.answers ≡ 0 → so_far.steps ≡ 0 → so_far.begun ≤ 1 → so_far.was_created ≡ true
      → IsKept hello config (record so_far { kept = [] }) stage (Opened 0 hello_first)
  begins so_far shut no_line answers steps begun created =
      opens_at shut no_line created (at_first_step config some few)
      (all_held 0 (at_last_step config some few) refl (λ n. tt) (omega (arith, answers))
      (omega (arith, steps)) begun) (omega arith)

  -- in a slice it comes to its end,
  abbrev pub comes_to_end : List Event → List Event
  comes_to_end more = Opened 0 hello_first ∷ Told hi_told true
      ∷ Ended (Slice 100) (Over (Exited 7)) 0 hello_last ∷ more

  abbrev pub slice_100 : List Act → Inputs
  slice_100 acts = in_peace [] (Slice 100 ∷ acts)

  -- whatever comes then
  pub to_the_end : (so_far : Promise) (how : Beginning) (acts : List Act) (more : List Event)
      → so_far.answers ≡ 0 → so_far.steps ≡ 0 → so_far.begun ≤ 1 → so_far.passed ≡ 0
      → so_far.was_created ≡ true
      → AreKept hello config (promised (record so_far { kept = [] }) (comes_to_end []))
      (stage_after (at_beginning how (slice_100 acts)) (comes_to_end [])) more
      → AreKept hello config (record so_far { kept = [] }) (at_beginning how (slice_100 acts))
      (comes_to_end more)
  to_the_end so_far how acts more answers steps begun passed created then = (
    begins so_far refl refl answers steps begun created,
    (
      tells 0 (hello_line config) tt (omega arith, omega arith) refl (omega arith)
          (omega (arith, passed)) refl,
      (
        ends refl (at_last_step config some few) refl (omega arith) (omega arith)
            (refl, omega arith, refl, record { all_taken = refl; all_told = refl }) (λ at. tt),
        then,
      ),
    ),
  )

  -- then a checkpoint is made
  pub saves : (so_far : Promise) (how : Beginning) → so_far.answers ≡ 0 → so_far.steps ≡ 0
      → so_far.begun ≤ 1 → so_far.passed ≡ 0 → so_far.was_created ≡ true
      → AreKept hello config (record so_far { kept = [] })
      (at_beginning how (slice_100 (Checkpoint ∷ [])))
      (comes_to_end (Ended Checkpoint Done 0 hello_last ∷ []))
  saves so_far how answers steps begun passed created =
      to_the_end so_far how (Checkpoint ∷ []) (Ended Checkpoint Done 0 hello_last ∷ []) answers
      steps begun passed created (
        ends refl (at_last_step config some few) refl (omega arith) (omega arith)
            (refl, refl, record { all_taken = refl; all_told = refl }) (λ at. tt),
        tt,
      )

  lives_cut : IsLived hello config nothing_yet cut_inputs cut_life
  lives_cut = record {
    kept = (
      begins creation_begun refl refl refl refl (omega arith) refl,
      (
        tells 0 (hello_line config) tt (omega arith, omega arith) refl (omega arith) (omega arith)
            refl,
        tt,
      ),
    );
    ends = (tt, omega arith);
    begins = λ creates. (refl, (refl, refl));
  }

  abbrev behind_cut : Promise
  behind_cut = promised_by nothing_yet cut_life

  lives_on : IsLived hello config behind_cut last_inputs last_life
  lives_on = record {
    kept = saves behind_cut Recovers refl refl (omega arith) refl refl;
    ends = (refl, refl, tt);
    begins = λ creates. never creates;
  }

  lives_ended : IsLived hello config (promised_by behind_cut last_life) ended_inputs ended_life
  lives_ended = record {
    kept = (
      opens_at refl refl refl (at_last_step config some few)
          (all_held 0 (at_last_step config some few) refl (λ n. tt) (omega arith) (omega arith)
          (omega arith)) (omega arith),
      (
        ends refl (at_last_step config some few) refl (omega arith) (omega arith)
            (refl, omega arith, refl, record { all_taken = refl; all_told = refl }) (λ at. tt),
        tt,
      ),
    );
    ends = (refl, refl, tt);
    begins = λ creates. never creates;
  }

pub hello_lives_hold : (config : Settings) → HelloLives config
hello_lives_hold config = record {
  go_on = λ some few.
      (lives_cut config some few, (lives_on config some few, (lives_ended config some few, tt)));
  opens_behind_a_line_untold = λ stage shown eight kept.
      (let one = one_line_there config shown.steps kept.at.process eight kept.at.reached in
      let lines : shown.lines ≡ length kept.at.process.host.lines = kept.at.shown.lines in
      let heard = kept.all_heard in
      omega (arith, one, lines, heard));
  ends_behind_a_line_untold = λ inputs fuel code first last eight kept.
      (let opened = kept.0 in
      let ended = kept.1.0 in
      let one = one_line_there config last.steps ended.at.process eight ended.at.reached in
      let lines : last.lines ≡ length ended.at.process.host.lines = ended.at.shown.lines in
      let heard = opened.all_heard in
      let told : first.lines ≡ last.lines =
      same_Some first.lines last.lines ended.reply.3.all_told in
      omega (arith, one, lines, heard, told));
  exits_otherwise = λ so_far stage fuel code last empty eight kept.
      (let reached : Reaches hello config [] last.steps kept.at.process = kept.at.reached in
      let same = at_eight config last.steps kept.at.process eight reached in
      let is : last.ended ≡ Some (Exited code) = kept.reply.2 in
      let was : last.ended ≡ kept.at.process.ended = kept.at.shown.ended in
      code_of code (sym is ∙ was ∙ ap (λ (z : ProcessState). z.ended) same
      ∙ (hello_at_end config).over));
  tells_another_line = λ so_far stage is_taken empty kept.
      no_other_line config (record { stream = Stderr; text = codes "hi" })
      (subst (λ z. IsLine hello config z 1 (record { stream = Stderr; text = codes "hi" })) empty
      kept.is_line) refl;
  tells_a_second_line = λ so_far stage is_taken empty kept.
      no_second_line config hi_told.line
      (subst (λ z. IsLine hello config z 2 hi_told.line) empty kept.is_line);
  asks = λ so_far stage steps question said fits empty kept.
      asks_kept config so_far steps question empty kept.process kept.reached kept.wants;
}
  where
    asks_kept : (config : Settings) (so_far : Promise) (steps : ℕ) (question : Question)
        → so_far.kept ≡ [] → (p : ProcessState)
        → (reached : Reaches hello config so_far.kept steps p)
        → next_of reached.guest p None ≡ Wants question → ⊥
    asks_kept config so_far steps question empty p reached wants =
        asks_nothing config steps p question (record {
          guest = reached.guest;
          start = reached.start;
          begins = reached.begins;
          runs = subst (λ z. Runs reached.guest reached.start z steps p) empty reached.runs;
        }) wants
