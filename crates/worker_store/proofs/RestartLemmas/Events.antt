-- Single events that keep what was promised, wherever a life is.
use Rattle.std.proofs.Common.{◌≡◌, ◌<◌, ◌≤◌, ◌+◌, ℕ, Bool, true, List, [], ◌∷◌, length, take, drop}
use Rattle.std.proofs.Common.{inl, Some, None, refl, sym, ap, ◌∙◌, subst, arith}
use Rattle.wasm_syntax.specs.declared.module.Module.{Module}
use Rattle.wasi_abi.specs.declared.answer.Question.{Question}
use Rattle.wasi_abi.specs.declared.answer.Answer.{Answer}
use Rattle.wasi_abi.specs.rules.Configs.{Settings}
use Rattle.wasi_abi.specs.rules.Versions.{text_limit}
use Rattle.wasi_calls_rules.specs.WasiStates.{Line}
use Rattle.process_rules.specs.Runs.{Kept}
use Rattle.process_rules.specs.Behind.{IsNarrowTo, AnswersBehindLine, IsLine}
use Rattle.state_image.specs.rules.ProcessImage.{Saved}
use Rattle.worker_store.specs.restart_theorem.Lives.{Act, SourceSaid, Reply, Opened}
use Rattle.worker_store.specs.restart_theorem.Lives.{Recovers, Creates, Finished, kept_by_end}
use Rattle.worker_store.specs.restart_theorem.Courses.{Stage, Shut, Open, NoneThere, first_said}
use Rattle.worker_store.specs.restart_theorem.Courses.{first_taken, IsToldIn, AreToldBy, IsAskedIn}
use Rattle.worker_store.specs.restart_theorem.Courses.{ComesAfter, IsNextAct}
use Rattle.worker_store.specs.restart_theorem.Promises.{Promise, IsAt, IsTelling, IsFitting}
use Rattle.worker_store.specs.restart_theorem.Promises.{IsInquiring, HoldsAll, IsOpening, IsReply}
use Rattle.worker_store.specs.restart_theorem.Promises.{IsCaughtUp, IsAtBound, IsEnding, IsLived}
use Rattle.worker_store.specs.restart_theorem.laws.Refused.{in_peace, recovered_life}
use Rattle.worker_store.specs.restart_theorem.laws.Honest.{AsksThis, HasLine, ShowsAt}

-- a recovery isn't a creation
pub never : {X : Type 0} → Recovers ≡ Creates → X
never same = absurd cc

module _ {m : Module} {config : Settings} where
  -- ---- what is held

  -- the answers behind so many lines, from a process that is shown
  pub behind : (kept : List Kept) (a i : ℕ) {steps : ℕ} {shown : Saved} → a ≤ length kept
      → IsAt m config (take a kept) steps shown → IsNarrowTo (drop a kept) steps
      → i ≤ shown.lines → AnswersBehindLine m config kept i a
  behind kept a i {steps} within at up few = let e = at.shown.lines in record {
    within = within;
    steps = steps;
    process = at.process;
    reached = at.reached;
    up_to = up;
    emitted = omega (arith, e, few);
  }

  -- All that is kept holds what was promised, where it has as many lines as were begun.
  pub all_held : {kept : List Kept} {so_far : Promise} (held : ℕ) {steps at : ℕ} {shown : Saved}
      → IsAt m config (take held kept) at shown → held ≡ length kept
      → ((n : ℕ) → IsNarrowTo (drop held kept) n) → so_far.answers ≤ held → so_far.steps ≤ steps
      → so_far.begun ≤ shown.lines → HoldsAll m config kept so_far held steps
  all_held {kept = kept} held {steps = steps} {at = n} at all narrow answers many begun = record {
    within = omega (arith, all);
    up_to = narrow steps;
    answers = answers;
    steps_held = many;
    lines = λ i few. (
      held,
      omega arith,
      behind kept held i (omega (arith, all)) at (narrow n) (omega (arith, few, begun)),
    );
    syncs = λ k a few b. (let within = b.within in omega (arith, all, within));
  }

  -- ---- events

  -- a life that has told nothing opens
  pub opens_at : {so_far : Promise} {stage : Stage} {held : ℕ} {shown : Saved}
      → stage.phase ≡ Shut → stage.line ≡ None → so_far.was_created ≡ true
      → IsAt m config (take held so_far.kept) shown.steps shown
      → HoldsAll m config so_far.kept so_far held shown.steps → shown.lines ≤ so_far.heard
      → IsOpening m config so_far stage held shown
  opens_at shut none created at holds heard = record {
    shut = shut;
    created = created;
    at = at;
    holds = holds;
    all_heard = heard;
    none_beyond = rw none tt;
    no_further = inl none;
  }

  -- the line of this place, after so many answers
  abbrev pub line_of : {kept : List Kept} {place from to : ℕ} {line : Line} (a : ℕ)
      (h : HasLine m config (take a kept) place from to line) → IsNarrowTo (drop a kept) h.steps
      → IsLine m config kept (place + 1) line
  line_of {place = place} a h up = record {
    answers = a;
    steps = h.steps;
    process = h.process;
    reached = h.reached;
    up_to = up;
    place = place;
    counted = refl;
    is = h.is;
  }

  -- is told
  pub tells : {so_far : Promise} {stage : Stage} {place from to : ℕ} {line : Line} {is_taken : Bool}
      (a : ℕ) (h : HasLine m config (take a so_far.kept) place from to line)
      → IsNarrowTo (drop a so_far.kept) h.steps
      → IsToldIn stage.phase stage.acts stage.step h.steps → ComesAfter stage.line (place + 1)
      → place ≤ so_far.heard → so_far.passed ≤ place → is_taken ≡ first_taken stage.takes
      → IsTelling m config so_far stage (record { number = place + 1; line = line }) is_taken
  tells a h up in_time follows heard passed taken = record {
    is_line = line_of a h up;
    in_time = in_time;
    follows = follows;
    none_skipped = omega (arith, heard);
    not_passed = omega (arith, passed);
    heard = taken;
  }

  -- a process asks, and the source says this
  pub asks : {so_far : Promise} {stage : Stage} {steps lines : ℕ} {question : Question}
      {answer : Answer} {said : SourceSaid} {fits : Bool}
      (a : AsksThis m config so_far.kept steps question answer lines)
      → IsAskedIn stage.phase stage.acts stage.step steps → AreToldBy stage.acts stage.line lines
      → IsFitting (text_limit a.process.host.version) question said fits
      → said ≡ first_said stage.says
      → IsInquiring m config so_far stage
      (record { steps = steps; question = question; said = said; fits = fits })
  asks {stage = stage} a in_time told fitting heard = record {
    process = a.process;
    reached = a.reached;
    running = a.running;
    wants = a.wants;
    in_time = in_time;
    all_told = subst (λ (n : ℕ). AreToldBy stage.acts stage.line n) (sym a.told) told;
    fitting = fitting;
    heard = heard;
  }

  -- a call ends that has widened nothing
  pub ends : {so_far : Promise} {stage : Stage} {act : Act} {reply : Reply} {held : ℕ}
      {shown : Saved} → kept_by_end act shown so_far.kept ≡ so_far.kept
      → IsAt m config (take held so_far.kept) shown.steps shown → IsNextAct act stage.acts
      → held ≤ length so_far.kept → stage.step ≤ shown.steps
      → IsReply config so_far.kept stage held shown act reply
      → ((at : IsAt m config (take held (kept_by_end act shown so_far.kept)) shown.steps shown)
      → IsAtBound so_far at reply)
      → IsEnding m config so_far stage
      (record { act = act; reply = reply; held = held; shown = shown })
  ends {so_far} {stage} {act} {reply} {held} {shown} same at next within onward says bound =
      let at_end : IsAt m config (take held (kept_by_end act shown so_far.kept)) shown.steps shown =
      subst (λ (l : List Kept). IsAt m config (take held l) shown.steps shown) (sym same) at in
      record {
        is_next = next;
        within = subst (λ (l : List Kept). held ≤ length l) (sym same) within;
        at = at_end;
        onward = onward;
        reply = subst (λ (l : List Kept). IsReply config l stage held shown act reply) (sym same)
            says;
        bound = bound at_end;
        widens = λ differs. absurd (differs same);
      }

  -- ---- what a slice or a batch answers

  -- its steps are taken,
  pub spent : {stage : Stage} {kept front : List Kept} {held steps lines : ℕ} (fuel : ℕ)
      (s : ShowsAt m config front steps lines) → stage.phase ≡ Open → stage.step + fuel ≡ steps
      → held ≡ length kept → stage.line ≡ Some lines
      → (stage.phase ≡ Open) × (s.saved.steps ≡ stage.step + fuel) × (s.saved.ended ≡ None)
      × IsCaughtUp kept stage held s.saved
  spent fuel s opened all taken told =
      let f = s.counted in (
        opened,
        omega (arith, f, all),
        s.running,
        record { all_taken = taken; all_told = told ∙ ap (λ (n : ℕ). Some n) (sym s.lines_are) },
      )

  -- or the source has none
  pub waits : {stage : Stage} {kept front : List Kept} {held steps lines : ℕ} (fuel : ℕ)
      (s : ShowsAt m config front steps lines) → stage.phase ≡ NoneThere steps
      → steps < stage.step + fuel → held ≡ length kept → stage.line ≡ Some lines
      → (stage.phase ≡ NoneThere s.saved.steps) × (s.saved.steps < stage.step + fuel)
      × (s.saved.ended ≡ None) × IsCaughtUp kept stage held s.saved
  waits fuel s asked few taken told =
      let f = s.counted in (
        asked ∙ ap (λ (n : ℕ). NoneThere n) (sym f),
        omega (arith, f, few),
        s.running,
        record { all_taken = taken; all_told = told ∙ ap (λ (n : ℕ). Some n) (sym s.lines_are) },
      )

  -- ---- lives

  -- a recovery that tells nothing, and has nothing more to do
  pub only_opens : {so_far : Promise} {held calls : ℕ} {shown : Saved}
      → so_far.was_created ≡ true → IsAt m config (take held so_far.kept) shown.steps shown
      → HoldsAll m config so_far.kept so_far held shown.steps → shown.lines ≤ so_far.heard
      → IsLived m config so_far (in_peace [] [])
      (recovered_life (Opened held shown ∷ []) calls Finished)
  only_opens created at holds heard = record {
    kept = (opens_at refl refl created at holds heard, tt);
    ends = (refl, refl, tt);
    begins = λ creates. never creates;
  }
