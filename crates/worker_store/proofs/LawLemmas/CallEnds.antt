-- How a worker's call ends.
use Rattle.std.proofs.Common.{◌≡◌, ◌≢◌, ℕ, suc, ◌+◌, ◌≤◌, ◌^◌, List, ◌∷◌, ◌++◌, length, take, refl}
use Rattle.std.proofs.Common.{sym, ap, ◌∙◌, subst, arith, inl, inr, Option, Some}
use Rattle.std.proofs.Math.Seq.{take-length}
use Rattle.wasm_syntax.specs.declared.module.Module.{Module}
use Rattle.wasi_abi.specs.declared.numbers.TheConstants.{NUMBERS_END}
use Rattle.wasi_abi.specs.declared.answer.Answer.{Answer}
use Rattle.wasi_abi.specs.rules.Configs.{Settings}
use Rattle.process_rules.specs.Processes.{ProcessState, Guest, IsStart}
use Rattle.process_rules.specs.Runs.{Kept, Runs, Next, On, Wants, Nowhere, next_of, Over as Ends}
use Rattle.process_rules.proofs.Growing.{runs_count}
use Rattle.process_rules.proofs.Quiet.{runs_join}
use Rattle.process.specs.rules.Stops.{LacksNumbers}
use Rattle.state_image.specs.rules.ProcessImage.{Saved}
use Rattle.worker_store.specs.restart_theorem.Lives.{Act, Slice, Batch, Checkpoint, Upgrade, Spent}
use Rattle.worker_store.specs.restart_theorem.Lives.{Waits, Over, Done, Ended, Reply, Fails, Cause}
use Rattle.worker_store.specs.restart_theorem.Lives.{OfDisk, OfSource, OfAnswer, OfOutlet, OfMemory}
use Rattle.worker_store.specs.restart_theorem.Lives.{OfBounds, OfJournal, OfLines, kept_by_end}
use Rattle.worker_store.specs.restart_theorem.Courses.{Stage, NoneThere, MayFail}
use Rattle.worker_store.specs.restart_theorem.Courses.{IsNextAct, IsInBatch, HasLastAsked}
use Rattle.worker_store.specs.restart_theorem.Promises.{Promise, after, IsAt, IsAtBound}
use Rattle.worker_store.specs.restart_theorem.Promises.{HasLastLines, IsCaughtUp, IsOneOf, IsReply}
use Rattle.worker_store.specs.restart_theorem.Promises.{MayPlead, MayWiden, fuel_of, IsEnding}
use Rattle.worker_store.specs.laws.Acts.{TakesSteps}
use Rattle.worker_store.proofs.RestartLemmas.Pleas.{batch_fails}
use Rattle.worker_store.proofs.LawLemmas.Underway.{among_first}
use Rattle.worker_store.specs.laws.Underway.{IsInItsSlice}
use Rattle.worker_store.specs.laws.CallEnds.{IsSavedAs, SpentSlicesEnd, EndedSlicesEnd}
use Rattle.worker_store.specs.laws.CallEnds.{WaitingSlicesEnd, HasBound, FailedSlicesEnd}
use Rattle.worker_store.specs.laws.CallEnds.{IsSavingNext, DoneSavesEnd, FailedSavesEnd, saving}
use Rattle.worker_store.specs.laws.CallEnds.{LateFaultsEnd, SlicesBegin, CallsLeaveBetween}
use Rattle.worker_store.proofs.LawLemmas.Acts.{done_reply, failed_reply, lines_emitted}

next_act : (act : Act) (acts rest : List Act) → acts ≡ act ∷ rest → IsNextAct act acts
next_act act acts rest is = subst (λ z. IsNextAct act z) (sym is) refl

-- ---- what an act that takes steps answers

keeps_all : (act : Act) (shown : Saved) (kept : List Kept) → TakesSteps act
    → kept_by_end act shown kept ≡ kept
keeps_all (Slice fuel) shown kept stepping = refl
keeps_all (Batch fuel most) shown kept stepping = refl
keeps_all Checkpoint shown kept stepping = absurd stepping
keeps_all Upgrade shown kept stepping = absurd stepping

-- what a slice of as many steps may answer, that may each such act
as_slices_do : (config : Settings) (kept : List Kept) (stage : Stage) (held : ℕ) (shown : Saved)
    (act : Act) (reply : Reply) → TakesSteps act
    → IsReply config kept stage held shown (Slice (fuel_of act)) reply
    → IsReply config kept stage held shown act reply
as_slices_do config kept stage held shown (Slice fuel) reply stepping says = says
as_slices_do config kept stage held shown (Batch fuel most) Spent stepping says = says
as_slices_do config kept stage held shown (Batch fuel most) Waits stepping says = says
as_slices_do config kept stage held shown (Batch fuel most) (Over why) stepping says = says
as_slices_do config kept stage held shown (Batch fuel most) Done stepping says = says
as_slices_do config kept stage held shown (Batch fuel most) (Fails cause) stepping says =
    (batch_fails stage.phase cause says.0, says.1, says.2)
as_slices_do config kept stage held shown Checkpoint reply stepping says = absurd stepping
as_slices_do config kept stage held shown Upgrade reply stepping says = absurd stepping

module _ (m : Module) (config : Settings) (guest : Guest) where
  -- the process, shown whole
  abbrev at_of : (kept : List Kept) (p : ProcessState) (shown : Saved) (start : ProcessState)
      → IsStart m config guest start → Runs guest start kept p.steps p
      → IsSavedAs m config guest p shown → IsAt m config kept shown.steps shown
  at_of kept p shown start begins runs saved = record {
    process = p;
    reached = record {
      guest = guest;
      start = start;
      begins = begins;
      runs = subst (λ n. Runs guest start kept n p) (sym saved.shows.steps) runs;
    };
    functions = saved.functions;
    function_types = saved.function_types;
    table = saved.table;
    shown = saved.shows;
  }

  caught_up : (promise : Promise) (stage : Stage) (p : ProcessState) (shown : Saved)
      → stage.line ≡ Some (length p.host.lines) → IsSavedAs m config guest p shown
      → IsCaughtUp promise.kept stage (length promise.kept) shown
  caught_up promise stage p shown line saved = record {
    all_taken = refl;
    all_told = line ∙ ap (λ n. Some n) (sym saved.shows.lines);
  }

  -- an act that takes steps ends where it has come to
  ending : (promise : Promise) (stage : Stage) (act : Act) (reply : Reply) (held : ℕ)
      (p : ProcessState) (shown : Saved) (at : IsInItsSlice m config guest promise stage act held p)
      (saved : IsSavedAs m config guest p shown)
      → IsReply config promise.kept stage held shown act reply
      → ((kept : List Kept) (runs : Runs guest at.start kept p.steps p)
      → IsAtBound promise (at_of kept p shown at.start at.begins runs saved) reply)
      → IsEnding m config promise stage
      (record { act = act; reply = reply; held = held; shown = shown })
  ending promise stage act reply held p shown at saved answers bound =
      let kept : List Kept = kept_by_end act shown promise.kept in
      let same : kept ≡ promise.kept = keeps_all act shown promise.kept at.takes_steps in
      let long : length kept ≡ length promise.kept = ap (λ (l : List Kept). length l) same in
      let steps : shown.steps ≡ p.steps = saved.shows.steps in
      let runs : Runs guest at.start (take held kept) p.steps p =
      subst (λ (l : List Kept). Runs guest at.start (take held l) p.steps p) (sym same) at.runs in
      record {
        is_next = next_act act stage.acts at.acts at.slice;
        within = (let w = at.within in omega (arith, w, long));
        at = at_of (take held kept) p shown at.start at.begins runs saved;
        onward = (let b = at.begun in omega (arith, b, steps));
        reply = subst (λ (l : List Kept). IsReply config l stage held shown act reply) (sym same)
            answers;
        bound = bound (take held kept) runs;
        widens = λ differs. absurd (differs same);
      }

  pub spent_slices_end : SpentSlicesEnd m config guest
  spent_slices_end promise stage act p shown over all running =
      let at = over.way.in_slice in
      let steps : shown.steps ≡ p.steps = over.saved.shows.steps in
      ending promise stage act Spent (length promise.kept) p shown at over.saved
      (as_slices_do config promise.kept stage (length promise.kept) shown act Spent at.takes_steps (
        over.way.is_open,
        omega (arith, steps, all),
        over.saved.shows.ended ∙ running,
        caught_up promise stage p shown over.way.line over.saved,
      ))
      (λ kept runs. tt)

  pub ended_slices_end : EndedSlicesEnd m config guest
  ended_slices_end promise stage act p shown why over is =
      let at = over.way.in_slice in
      let steps : shown.steps ≡ p.steps = over.saved.shows.steps in
      let b = at.in_time in
      ending promise stage act (Over why) (length promise.kept) p shown at over.saved
      (as_slices_do config promise.kept stage (length promise.kept) shown act (Over why)
      at.takes_steps (
        over.way.is_open,
        omega (arith, b, steps),
        over.saved.shows.ended ∙ is,
        caught_up promise stage p shown over.way.line over.saved,
      ))
      (λ kept runs. tt)

  pub waiting_slices_end : WaitingSlicesEnd m config guest
  waiting_slices_end promise stage act p shown broken saved line running room =
      let at = broken.in_slice in
      let steps : shown.steps ≡ p.steps = saved.shows.steps in
      ending promise stage act Waits (length promise.kept) p shown at saved
      (as_slices_do config promise.kept stage (length promise.kept) shown act Waits at.takes_steps (
        broken.is ∙ ap (λ n. NoneThere n) (sym steps),
        omega (arith, room, steps),
        saved.shows.ended ∙ running,
        caught_up promise stage p shown line saved,
      ))
      (λ kept runs. tt)

  -- ---- errors

  few_left : (n : ℕ) → suc n ≡ 2 ^ 63 → NUMBERS_END ≤ n + 1
  few_left n is = omega (arith, is)

  lacking : (given : Option Answer) (kept : List Kept) (p : ProcessState) (shown : Saved)
      (at : IsAt m config kept shown.steps shown) (next : Next)
      → next_of at.reached.guest at.process given ≡ next → LacksNumbers next
      → HasLastLines at
  lacking given kept p shown at (On configuration host) leads lacks = record {
    given = given;
    configuration = configuration;
    host = host;
    leads = leads;
    no_numbers = lacks;
  }
  lacking given kept p shown at (Ends why configuration host) leads lacks = absurd lacks
  lacking given kept p shown at (Wants question) leads lacks = absurd lacks
  lacking given kept p shown at Nowhere leads lacks = absurd lacks

  at_bound : (promise : Promise) (kept : List Kept) (p : ProcessState) (shown : Saved)
      (start : ProcessState) (begins : IsStart m config guest start)
      (runs : Runs guest start kept p.steps p) (saved : IsSavedAs m config guest p shown)
      (cause : Cause) → HasBound m config guest promise p cause
      → IsAtBound promise (at_of kept p shown start begins runs saved) (Fails cause)
  at_bound promise kept p shown start begins runs saved OfBounds (inl (given, inl last)) =
      inl (few_left p.steps last)
  at_bound promise kept p shown start begins runs saved OfBounds (inl (given, inr lacks)) =
      inr (inr (lacking given kept p shown (at_of kept p shown start begins runs saved)
      (next_of guest p given) refl lacks))
  at_bound promise kept p shown start begins runs saved OfBounds (inr many) = inr (inl many)
  at_bound promise kept p shown start begins runs saved OfDisk bound = tt
  at_bound promise kept p shown start begins runs saved OfSource bound = tt
  at_bound promise kept p shown start begins runs saved OfAnswer bound = tt
  at_bound promise kept p shown start begins runs saved OfOutlet bound = tt
  at_bound promise kept p shown start begins runs saved OfMemory bound = tt
  at_bound promise kept p shown start begins runs saved OfJournal bound = tt
  at_bound promise kept p shown start begins runs saved OfLines bound = tt

  pub failed_slices_end : FailedSlicesEnd m config guest
  failed_slices_end promise stage act held p shown phase cause broken saved may bound =
      let at = broken.in_slice in
      let steps : shown.steps ≡ p.steps = saved.shows.steps in
      let b = at.in_time in
      ending promise stage act (Fails cause) held p shown at saved
      (as_slices_do config promise.kept stage held shown act (Fails cause) at.takes_steps (
        subst (λ z. MayFail z cause) (sym broken.is) may,
        omega (arith, b, steps),
        subst (λ (n : ℕ). IsOneOf stage.line n) (sym saved.shows.lines) broken.told,
      ))
      (λ kept runs. at_bound promise kept p shown at.start at.begins runs saved cause bound)

  -- what takes steps in a batch is one
  late_reply : (kept : List Kept) (stage : Stage) (held : ℕ) (shown : Saved) (act : Act)
      (acts : List Act) → IsInBatch (act ∷ acts) → HasLastAsked stage.phase
      → shown.steps ≤ stage.step + fuel_of act → IsOneOf stage.line shown.lines
      → IsReply config kept stage held shown act (Fails OfDisk)
  late_reply kept stage held shown (Slice fuel) acts batch asked some told = absurd batch
  late_reply kept stage held shown (Batch fuel most) acts batch asked some told =
      (inr asked, some, told)
  late_reply kept stage held shown Checkpoint acts batch asked some told = absurd batch
  late_reply kept stage held shown Upgrade acts batch asked some told = absurd batch

  pub late_faults_end : LateFaultsEnd m config guest
  late_faults_end promise stage act held p shown broken saved batch asked =
      let at = broken.in_slice in
      let steps : shown.steps ≡ p.steps = saved.shows.steps in
      let b = at.in_time in
      ending promise stage act (Fails OfDisk) held p shown at saved
      (late_reply promise.kept stage held shown act at.acts
      (subst (λ (l : List Act). IsInBatch l) at.slice batch) asked (omega (arith, b, steps))
      (subst (λ (n : ℕ). IsOneOf stage.line n) (sym saved.shows.lines) broken.told))
      (λ kept runs. tt)

  -- ---- an act that saves

  all_kept : (promise : Promise) (p : ProcessState) (start : ProcessState)
      → Runs guest start promise.kept p.steps p
      → Runs guest start (take (length promise.kept) promise.kept) p.steps p
  all_kept promise p start runs =
      subst (λ kept. Runs guest start kept p.steps p) (sym (take-length promise.kept)) runs

  -- What is kept in the end leads to the process that is saved.
  module _ (promise : Promise) (stage : Stage) (act : Act) (more : List Kept)
      (p q : ProcessState) (shown : Saved)
      (is : IsSavingNext m config guest promise stage act p (saving more q shown)) where
    same_steps : q.steps ≡ p.steps
    same_steps =
        let counted : q.steps ≡ p.steps + 0 =
        runs_count guest p q more 0 (let comes = is.comes in comes.runs) in
        omega (arith, counted)

    pub saved_runs : Runs guest (let at = is.between in at.start) (promise.kept ++ more) q.steps q
    saved_runs =
        let at = is.between in
        let comes = is.comes in
        let there : p.steps + 0 ≡ q.steps = (let s = same_steps in omega (arith, s)) in
        subst (λ n. Runs guest at.start (promise.kept ++ more) n q) there
        (runs_join guest at.start p q promise.kept more p.steps 0 at.runs comes.runs)

    saved_at : (kept : List Kept) → kept ≡ promise.kept ++ more
        → Runs guest (let at = is.between in at.start) (take (length (promise.kept ++ more)) kept)
        q.steps q
    saved_at kept same =
        subst (λ l. Runs guest (let at = is.between in at.start) l q.steps q)
        (sym (ap (λ l. take (length (promise.kept ++ more)) l) same
        ∙ take-length (promise.kept ++ more))) saved_runs

    at_step : shown.steps ≡ stage.step
    at_step =
        let saved = is.saved in
        let between = is.between in
        saved.shows.steps ∙ same_steps ∙ sym between.step

    told_all : stage.line ≡ Some (length q.host.lines)
    told_all =
        let between = is.between in
        let comes = is.comes in
        between.line ∙ ap (λ n. Some n) (sym comes.lines)

    may_widen : kept_by_end act shown promise.kept ≢ promise.kept
        → MayWiden config promise shown
    may_widen differs =
        let saved = is.saved in
        let steps : shown.steps ≡ q.steps = saved.shows.steps in
        let same : q.steps ≡ p.steps = same_steps in
        let synced : promise.synced ≤ p.steps = is.synced in
        record {
          lines = lines_emitted promise act more shown is.saves differs;
          syncs = omega (arith, steps, same, synced);
          room = is.room differs;
        }

  pub done_saves_end : DoneSavesEnd m config guest
  done_saves_end promise stage act more p q shown is version =
      let held : ℕ = length (promise.kept ++ more) in
      let saves = is.saves in
      let between = is.between in
      let kept : List Kept = (after promise (Ended act Done held shown)).kept in
      let long : length kept ≡ length (promise.kept ++ more) =
      ap (λ (l : List Kept). length l) (saves.kept Done held) in
      let step : shown.steps ≡ stage.step =
      at_step promise stage act more p q shown is in
      let line = told_all promise stage act more p q shown is in
      record {
        is_next = next_act act stage.acts is.acts is.is_next;
        within = omega (arith, long);
        at = at_of (take held kept) q shown between.start between.begins
            (saved_at promise stage act more p q shown is kept (saves.kept Done held)) is.saved;
        onward = omega (arith, step);
        reply = done_reply config kept stage held shown act saves.saving version between.is_open
            step (record {
              all_taken = sym long;
              all_told = line ∙ ap (λ n. Some n) (let saved = is.saved in sym saved.shows.lines);
            });
        bound = tt;
        widens = may_widen promise stage act more p q shown is;
      }

  pub failed_saves_end : FailedSavesEnd m config guest
  failed_saves_end promise stage act more p q shown cause is may bound =
      let held : ℕ = length (promise.kept ++ more) in
      let saves = is.saves in
      let between = is.between in
      let kept : List Kept = (after promise (Ended act (Fails cause) held shown)).kept in
      let long : length kept ≡ length (promise.kept ++ more) =
      ap (λ (l : List Kept). length l) (saves.kept (Fails cause) held) in
      let step : shown.steps ≡ stage.step =
      at_step promise stage act more p q shown is in
      let runs = saved_at promise stage act more p q shown is kept
      (saves.kept (Fails cause) held) in
      record {
        is_next = next_act act stage.acts is.acts is.is_next;
        within = omega (arith, long);
        at = at_of (take held kept) q shown between.start between.begins runs is.saved;
        onward = omega (arith, step);
        reply = failed_reply config kept stage held shown act cause saves.saving
            (subst (λ (l : List Kept). MayPlead config l stage act cause)
            (sym (saves.kept (Fails cause) held)) may) step
            (among_first stage.line (length q.host.lines) shown.lines
            (told_all promise stage act more p q shown is)
            (let saved = is.saved in let l = saved.shows.lines in omega (arith, l)));
        bound = at_bound promise (take held kept) q shown between.start between.begins runs is.saved
            cause bound;
        widens = may_widen promise stage act more p q shown is;
      }

  -- ---- from call to call

  pub slices_begin : SlicesBegin m config guest
  slices_begin promise stage act acts p at is takes heard passed = record {
    in_slice = record {
      acts = acts;
      slice = is;
      takes_steps = takes;
      within = omega arith;
      start = at.start;
      begins = at.begins;
      runs = all_kept promise p at.start at.runs;
      begun = (let s = at.step in omega (arith, s));
      in_time = (let s = at.step in omega (arith, s));
    };
    is_open = at.is_open;
    line = at.line;
    emitted = omega arith;
    heard = heard;
    passed = passed;
  }

  pub calls_leave_between : CallsLeaveBetween m config guest
  calls_leave_between promise stage act reply held p shown start begins runs line steps opens =
      record {
        start = start;
        begins = begins;
        runs = runs;
        is_open = opens;
        step = steps;
        line = line;
      }
