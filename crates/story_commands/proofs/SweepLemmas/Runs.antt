-- What is known of lives that were run, by why a sweep ends early.
use Rattle.std.proofs.Common.{◌≡◌, ℕ, ◌+◌, List, [], ◌++◌, Ok, Err, Result, arith, drop, inl}
use Rattle.std.proofs.Common.{Bool, ap, append_assoc, inr, length, refl, subst, sym, take, ◌∙◌}
use Rattle.std.proofs.lemmas.List.Elements.{All-append, All-take}
use Rattle.std.specs.Prelude.{◌<◌, IfErr, IfOk, Some}
use Rattle.std.specs.List.{All}
use Rattle.std.specs.Result.{IsErrAnd}
use Rattle.wasi_abi.specs.rules.Configs.{Settings}
use Rattle.sector_disk.specs.declared.fault_point.FaultPoint.{FaultPoint}
use Rattle.record_replay.specs.declared.line_list.NumberedLine.{NumberedLine}
use Rattle.worker.specs.declared.story.life.PlannedLife.{PlannedLife}
use Rattle.worker.specs.declared.story.report.LifeReport.{LifeReport}
use Rattle.worker.specs.declared.story.report.LifeEnd.TheVariants.{Failed}
use Rattle.worker.specs.declared.recover_fault.RecoverFault.{RecoverFault}
use Rattle.worker.specs.Going.{HaveStarted}
use Rattle.worker.specs.rules.StoryDisks.{TellsLives}
use Rattle.story_commands.specs.declared.sweeping.cutting.Sweep.{Sweep}
use Rattle.story_commands.specs.declared.sweeping.fault.SweepFault.{SweepFault}
use Rattle.story_commands.specs.declared.sweeping.fault.SweepFault.TheVariants as fault
use Rattle.story_commands.specs.declared.sweeping.running.RunLives.{RunLives}
use Rattle.story_commands.specs.rules.Sweeps.{AreCutsTo, IsCutRun, IsSwept, SweptPartValue}
use Rattle.story_commands.specs.rules.Sweeps.{and_idle, cut_at, swept_part}
use Rattle.story_commands.specs.rules.Sweeps.{HadMemory, HasFailedPlan, end_at, first_stopped}
use Rattle.story_commands.specs.rules.Sweeps.{TakesAllAnswers, given_at, lives_after}
use Rattle.story_commands.specs.laws.CutRuns.{AreRun, CallsBegun, HasRunCut, HaveAgreed, IsCutFault}
use Rattle.story_commands.specs.laws.CutRuns.{IsStarted, cut_of, IsPlainRun, IsPlanFault}
use Rattle.story_commands.specs.laws.CutRuns.{IsSweepFault, IsSweepOf, IsSweptAt, IsTestFault}
use Rattle.story_commands.specs.laws.CutRuns.{IsLeavingFault, IsPlainUpTo, IsToldPlain}

-- a fault that is handed on
pub kept_fault : {T : Type 0} (r : Result T SweepFault) (why : SweepFault)
    (P : SweepFault → Type 0) → IsErrAnd r (λ e. e ≡ why) → P why → IfErr r P
kept_fault (Ok x) why P is h = tt
kept_fault (Err e) why P is h = subst P (sym is) h

-- what three equal parts make
same_of_three : {A B C D : Type 0} (f : A → B → C → D) (a a' : A) (b b' : B) (c c' : C)
    → a ≡ a' → b ≡ b' → c ≡ c' → f a b c ≡ f a' b' c'
same_of_three {A} {B} {C} f a a' b b' c c' h i j =
    ap (λ (x : A). f x b c) h ∙ ap (λ (y : B). f a' y c) i ∙ ap (λ (z : C). f a' b' z) j

-- what is told of the same lives
same_told : (w wasm : List ℕ) (c config : Settings) (l lives : List PlannedLife)
    (reports : List LifeReport) → w ≡ wasm → c ≡ config → l ≡ lives → TellsLives w c l reports
    → TellsLives wasm config lives reports
same_told w wasm c config l lives reports h i j tells =
    subst (λ (x : List ℕ). TellsLives x config lives reports) h
    (subst (λ (y : Settings). TellsLives w y lives reports) i
    (subst (λ (z : List PlannedLife). TellsLives w c z reports) j tells))

-- the lives of a cut
pub cut_run : (sweep : Sweep) (place : FaultPoint) (given : ℕ) (lives : List PlannedLife)
    (result : Result (List LifeReport) SweepFault) → IsStarted sweep
    → lives ≡ cut_at [] sweep.part.swept.now sweep.part.told.now place sweep.part.before given
    → IfOk result (λ reports. (earlier : List PlannedLife) (before : List LifeReport)
    → HaveStarted sweep.wasm.now sweep.config.now earlier before sweep.start.now
    → TellsLives sweep.wasm.now sweep.config.now (earlier ++ lives) (before ++ reports))
    → IfOk result (All HadMemory) → IfOk result (HasRunCut sweep place given)
cut_run sweep place given lives (Ok reports) is planned told fed =
    let earlier = sweep.part.earlier.now in
    let before = sweep.part.told_before.now in
    let swept = sweep.part.swept.now in
    let whole : earlier ++ lives ≡ cut_of sweep place given =
    ap (λ (ls : List PlannedLife). earlier ++ ls) planned
    ∙ sym (append_assoc earlier (first_stopped place swept)
    (lives_after swept sweep.part.told.now sweep.part.before given)) in
    record {
      tells =
          subst (λ (ls : List PlannedLife). TellsLives sweep.wasm.now sweep.config.now ls
          (before ++ reports)) whole (told earlier before is.started);
      fed = fed;
    }
cut_run sweep place given lives (Err why) is planned told fed = tt

-- the run without a cut
pub plan_ends : (wasm : List ℕ) (config : Settings) (lives : List PlannedLife) (place : ℕ)
    (why : SweepFault) → IsPlanFault wasm config lives why
    → IsSweepFault wasm config lives place why
plan_ends wasm config lives place fault.Memory h = tt
plan_ends wasm config lives place (fault.Plan number why) h = h
plan_ends wasm config lives place (fault.AnswersLeft number taken all) h = absurd h
plan_ends wasm config lives place (fault.Upgrade run) h = absurd h
plan_ends wasm config lives place (fault.Differs run) h = record {
  run = run.lives;
  reports = run.reports;
  tells = h.1.tells;
  fed = h.1.fed;
  which = inl h.0;
}

-- lives that leave answers
pub leaving_ends : (wasm : List ℕ) (config : Settings) (lives : List PlannedLife) (place : ℕ)
    (why : SweepFault) → IsLeavingFault wasm config lives why
    → IsSweepFault wasm config lives place why
leaving_ends wasm config lives place fault.Memory h = tt
leaving_ends wasm config lives place (fault.Plan number why) h = absurd h
leaving_ends wasm config lives place (fault.AnswersLeft number taken all) h = h
leaving_ends wasm config lives place (fault.Upgrade run) h = absurd h
leaving_ends wasm config lives place (fault.Differs run) h = absurd h

pub plain_ends : (wasm : List ℕ) (config : Settings) (lives : List PlannedLife) (place : ℕ)
    (run : RunLives) → IsPlainRun wasm config lives run
    → IsSweepFault wasm config lives place (fault.Differs run)
plain_ends wasm config lives place run h = record {
  run = run.lives;
  reports = run.reports;
  tells = h.run.tells;
  fed = h.run.fed;
  which = inl h.lives_are;
}

-- what is told of the run without a cut
pub plain_tells : (wasm : List ℕ) (config : Settings) (lives : List PlannedLife)
    (run : RunLives) → IsPlainRun wasm config lives run
    → TellsLives wasm config (and_idle lives) run.reports
plain_tells wasm config lives run h =
    subst (λ (ls : List PlannedLife). TellsLives wasm config ls run.reports) h.lives_are h.run.tells

-- a life that has ended by an error without a cut
pub plan_failed : (wasm : List ℕ) (config : Settings) (lives : List PlannedLife) (run : RunLives)
    (place : ℕ) (why : RecoverFault) → IsPlainUpTo wasm config lives run place
    → place < length lives → end_at place run.reports ≡ Some (Failed why)
    → HasFailedPlan wasm config lives (place + 1) why
plan_failed wasm config lives run place why is within failed = record {
  plain = run.reports;
  tells =
      subst (λ (ls : List PlannedLife). TellsLives wasm config ls run.reports) is.lives_are
      is.run.tells;
  fed = is.run.fed;
  place = place;
  number_is = refl;
  within = within;
  done = is.done;
  failed = failed;
}

-- lives that were run with an upgrade that is done again
pub upgraded_again : (sweep : Sweep) (lives : List PlannedLife) (run : RunLives)
    → run.lives ≡ lives → lives ≡ and_idle sweep.part.earlier.now
    ++ lives_after sweep.part.swept.now sweep.part.told.now sweep.part.before
    (given_at 0 sweep.part.told.now) → AreRun sweep.wasm.now sweep.config.now run
    → IsTestFault sweep (fault.Upgrade run)
upgraded_again sweep lives run same planned is = (
  sweep.part.before,
  subst (λ (ls : List PlannedLife). TellsLives sweep.wasm.now sweep.config.now ls run.reports)
      (same ∙ planned) is.tells,
  is.fed,
)

-- the upgrade that is done again
pub upgrade_ends : (wasm : List ℕ) (config : Settings) (lives : List PlannedLife) (place : ℕ)
    (plain : RunLives) (sweep : Sweep) (why : SweepFault) → IsPlainRun wasm config lives plain
    → IsSweepOf wasm config lives place plain.reports sweep → IsTestFault sweep why
    → IsSweepFault wasm config lives place why
upgrade_ends wasm config lives place plain sweep fault.Memory is of h = tt
upgrade_ends wasm config lives place plain sweep (fault.Plan number why) is of h = absurd h
upgrade_ends wasm config lives place plain sweep (fault.AnswersLeft number taken all) is of h =
    absurd h
upgrade_ends wasm config lives place plain sweep (fault.Differs run) is of h = absurd h
upgrade_ends wasm config lives place plain sweep (fault.Upgrade run) is of (before, tells, fed)
    = record {
      plain = plain.reports;
      tells = plain_tells wasm config lives plain is;
      finished = is.finished;
      before = before;
      reports = run.reports;
      again =
          same_told sweep.wasm.now wasm sweep.config.now config _ _ run.reports of.wasm_is
          of.config_is
          (same_of_three (λ (earlier swept : List PlannedLife) (told : List LifeReport).
          and_idle earlier ++ lives_after swept told before (given_at 0 told))
          sweep.part.earlier.now (take place lives) sweep.part.swept.now (drop place lives)
          sweep.part.told.now (drop place plain.reports) of.earlier of.swept of.told_is) tells;
      fed = fed;
    }

-- a cut that differs
pub cut_ends : (wasm : List ℕ) (config : Settings) (lives : List PlannedLife) (place : ℕ)
    (plain : RunLives) (sweep : Sweep) (calls : ℕ) (why : SweepFault)
    → IsPlainRun wasm config lives plain → IsSweepOf wasm config lives place plain.reports sweep
    → CallsBegun plain.reports place calls → IsCutFault sweep calls why
    → IsSweepFault wasm config lives place why
cut_ends wasm config lives place plain sweep calls fault.Memory is of begun h = tt
cut_ends wasm config lives place plain sweep calls (fault.Plan number why) is of begun h = absurd h
cut_ends wasm config lives place plain sweep calls (fault.AnswersLeft number taken all) is of begun
    h =
    absurd h
cut_ends wasm config lives place plain sweep calls (fault.Upgrade run) is of begun h = absurd h
cut_ends wasm config lives place plain sweep calls (fault.Differs run) is of begun
    (at, given, within, lives_are, has) = record {
      run = run.lives;
      reports = sweep.part.told_before.now ++ run.reports;
      tells =
          same_told sweep.wasm.now wasm sweep.config.now config (cut_of sweep at given) run.lives
          (sweep.part.told_before.now ++ run.reports) of.wasm_is of.config_is (sym lives_are)
          has.tells;
      fed =
          All-append HadMemory sweep.part.told_before.now run.reports
          (subst (All HadMemory) (sym of.told_before)
          (All-take HadMemory place plain.reports is.run.fed)) has.fed;
      which = inr (record {
        plain = plain.reports;
        tells = plain_tells wasm config lives plain is;
        finished = is.finished;
        life = begun.0;
        life_is = begun.1;
        at = at;
        within = omega (arith, within, begun.2);
        before = sweep.part.before;
        given = given;
        run_is = lives_are
            ∙ same_of_three (λ (earlier swept : List PlannedLife) (told : List LifeReport).
            cut_at earlier swept told at sweep.part.before given) sweep.part.earlier.now
            (take place lives) sweep.part.swept.now (drop place lives) sweep.part.told.now
            (drop place plain.reports) of.earlier of.swept of.told_is;
      });
    }

-- the same cuts
same_runs : (w wasm : List ℕ) (c config : Settings) (e earlier s swept : List PlannedLife)
    (t told : List LifeReport) (l texts : List NumberedLine) (before : ℕ)
    (Holds : (FaultPoint → Bool → Type 0) → Type 0)
    → w ≡ wasm → c ≡ config → e ≡ earlier → s ≡ swept → t ≡ told → l ≡ texts
    → Holds (IsCutRun w c (swept_part e s t before) l)
    → Holds (IsCutRun wasm config (swept_part earlier swept told before) texts)
same_runs w wasm c config e earlier s swept t told l texts before Holds hw hc he hs ht hl runs =
    let of : List PlannedLife → List PlannedLife → List LifeReport → SweptPartValue =
    λ e s t. swept_part e s t before in
    subst (λ (x : List ℕ). Holds (IsCutRun x config (of earlier swept told) texts)) hw
    (subst (λ (x : Settings). Holds (IsCutRun w x (of earlier swept told) texts)) hc
    (subst (λ (x : List PlannedLife). Holds (IsCutRun w c (of x swept told) texts)) he
    (subst (λ (x : List PlannedLife). Holds (IsCutRun w c (of e x told) texts)) hs
    (subst (λ (x : List LifeReport). Holds (IsCutRun w c (of e s x) texts)) ht
    (subst (λ (x : List NumberedLine). Holds (IsCutRun w c (of e s t) x)) hl runs)))))

-- all cuts agree
pub all_agree : (wasm : List ℕ) (config : Settings) (lives : List PlannedLife) (place : ℕ)
    (fronts : List ℕ) (plain : RunLives) (texts : List NumberedLine) (sweep : Sweep)
    (calls cuts lines : ℕ) → IsToldPlain wasm config lives place plain texts calls
    → IsSweepOf wasm config lives place plain.reports sweep → sweep.texts.now ≡ texts
    → ((at : ℕ) → TakesAllAnswers wasm config lives at) → HaveAgreed sweep calls fronts cuts
    → lines ≡ length texts → IsSwept wasm config lives place fronts cuts lines
all_agree wasm config lives place fronts plain texts sweep calls cuts lines told of same taken swept
    count
    = record {
      plain = plain.reports;
      tells = plain_tells wasm config lives plain told.is_plain;
      finished = told.is_plain.finished;
      all_taken = taken;
      texts = texts;
      texts_are = told.texts_are;
      lines_are = count;
      life = told.begun.0;
      life_is = told.begun.1;
      before = sweep.part.before;
      made = swept.0;
      runs =
          same_runs sweep.wasm.now wasm sweep.config.now config sweep.part.earlier.now
          (take place lives) sweep.part.swept.now (drop place lives) sweep.part.told.now
          (drop place plain.reports) sweep.texts.now texts sweep.part.before
          (λ Cuts. AreCutsTo Cuts told.begun.0.calls fronts swept.0) of.wasm_is of.config_is
          of.earlier of.swept of.told_is same
          (subst (λ (n : ℕ). AreCutsTo (IsSweptAt sweep) n fronts swept.0) told.begun.2 swept.1);
      cuts_are = swept.2;
    }
