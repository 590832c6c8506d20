-- Answers that lives take.
use Rattle.std.proofs.Common.{◌≡◌, ℕ, ◌+◌, ◌-◌, ◌<◌, ◌≤◌, List, [], ◌∷◌, ◌++◌, length, take, arith}
use Rattle.std.proofs.Common.{ap, refl, subst, sym, ◌∙◌}
use Rattle.std.proofs.Common.{Bool, true, false, ◌==◌}
use Rattle.std.specs.Prelude.{Some, slice_get}
use Rattle.std.proofs.lemmas.Bool.{eqb-false, eqb-true}
use Rattle.std.proofs.lemmas.Option.{slice_get_within, same_Some}
use Rattle.wasi_abi.specs.rules.Configs.{Settings}
use Rattle.worker.specs.declared.story.life.PlannedLife.{PlannedLife}
use Rattle.worker.specs.declared.story.report.LifeReport.{LifeReport}
use Rattle.worker.specs.rules.StoryDisks.{TellsLives}
use Rattle.story_commands.specs.declared.sweeping.running.RunLives.{RunLives}
use Rattle.story_commands.specs.rules.Sweeps.{LeavesAnswers, TakesAllAnswers, TakesAnswers}
use Rattle.story_commands.specs.rules.Sweeps.{and_idle, given_at, checkpointed_life}
use Rattle.story_commands.specs.laws.CutRuns.{AreRun}

-- how many were taken, by what is told of lives that were run
pub taken_so : (wasm : List ℕ) (config : Settings) (earlier lives : List PlannedLife)
    (life : PlannedLife) (run : RunLives) (reports : List LifeReport) (taken : ℕ)
    → lives ≡ and_idle (earlier ++ checkpointed_life life ∷ []) → run.lives ≡ lives
    → AreRun wasm config run → reports ≡ run.reports
    → taken ≡ given_at (length earlier + 1) reports - given_at (length earlier) reports
    → TakesAnswers wasm config earlier life taken
taken_so wasm config earlier lives life run reports taken planned same are told count = record {
  reports = run.reports;
  tells =
      subst (λ (ls : List PlannedLife). TellsLives wasm config ls run.reports) (same ∙ planned)
      are.tells;
  fed = are.fed;
  taken_is = count
      ∙ ap (λ (rs : List LifeReport). given_at (length earlier + 1) rs
      - given_at (length earlier) rs) told;
}

-- the first lives take all
abbrev pub TakeAllBefore : List ℕ → Settings → List PlannedLife → ℕ → Type 0
TakeAllBefore wasm config lives place =
    (at : ℕ) → at < place → TakesAllAnswers wasm config lives at

pub none_before : (wasm : List ℕ) (config : Settings) (lives : List PlannedLife)
    → TakeAllBefore wasm config lives 0
none_before wasm config lives at less = absurd (omega (arith, less))

-- the life at this place, too
pub one_takes_more : (wasm : List ℕ) (config : Settings) (lives : List PlannedLife) (place : ℕ)
    (life : PlannedLife) (taken : ℕ) → slice_get lives place ≡ Some life
    → TakesAnswers wasm config (take place lives) life taken → length life.answers ≤ taken
    → TakeAllBefore wasm config lives place → TakeAllBefore wasm config lives (place + 1)
one_takes_more wasm config lives place life taken is takes all before at less one one_is =
    by (at == place) refl
  where
    by : (b : Bool) → (at == place) ≡ b → (n : ℕ)
        × TakesAnswers wasm config (take at lives) one n × (length one.answers ≤ n)
    by true e =
        let same : at ≡ place = eqb-true at place e in
        let one_life : life ≡ one =
        same_Some life one (sym is ∙ ap (slice_get lives) (sym same) ∙ one_is) in
        subst (λ (n : ℕ). (m : ℕ) × TakesAnswers wasm config (take n lives) one m
        × (length one.answers ≤ m)) (sym same)
        (subst (λ (l : PlannedLife). (m : ℕ) × TakesAnswers wasm config (take place lives) l m
        × (length l.answers ≤ m)) one_life (taken, takes, all))
    by false e =
        before at (omega (arith, less, eqb-false at place e)) one one_is

-- all of them
pub all_take : (wasm : List ℕ) (config : Settings) (lives : List PlannedLife) (place : ℕ)
    → length lives ≤ place → TakeAllBefore wasm config lives place → (at : ℕ)
    → TakesAllAnswers wasm config lives at
all_take wasm config lives place past before at one one_is =
    before at (let less = slice_get_within lives at one one_is in omega (arith, less, past)) one
    one_is

-- a life that leaves answers
pub leaves_so : (wasm : List ℕ) (config : Settings) (lives : List PlannedLife) (place : ℕ)
    (life : PlannedLife) (number taken all : ℕ) → slice_get lives place ≡ Some life
    → number ≡ place + 1 → TakesAnswers wasm config (take place lives) life taken
    → all ≡ length life.answers → taken < all → TakeAllBefore wasm config lives place
    → LeavesAnswers wasm config lives number taken all
leaves_so wasm config lives place life number taken all is numbered takes count fewer before =
    record {
      place = place;
      number_is = numbered;
      life = life;
      life_is = is;
      before = before;
      takes = takes;
      all_is = count;
      fewer = fewer;
    }
