-- Cuts that go on from what the lives before the swept one have left.
use Rattle.std.proofs.Common.{◌≡◌, ℕ, zero, suc, ◌+◌, ◌<◌, ◌≤◌, List, [], ◌∷◌, ◌++◌, drop, take}
use Rattle.std.proofs.Common.{Bool, ap, arith, length, length-append, subst, sym, ◌∙◌}
use Rattle.std.specs.List.{All}
use Rattle.std.specs.Prelude.{Option, Some, None, Result, Ok, Err, IfOk, IfSome}
use Rattle.std.specs.Prelude.{option_and_then, option_map, slice_get}
use Rattle.std.proofs.lemmas.List.{drop-drop, drop_at, length-take-le, take-append-le, take_at}
use Rattle.std.proofs.lemmas.List.Elements.{All-take}
use Rattle.std.proofs.lemmas.Option.{slice_get_within}
use Rattle.wasi_abi.specs.rules.Configs.{Settings}
use Rattle.sector_disk.specs.declared.fault_point.FaultPoint.{FaultPoint}
use Rattle.worker.specs.declared.story.life.PlannedLife.{PlannedLife}
use Rattle.worker.specs.declared.story.report.LifeReport.{LifeReport}
use Rattle.worker.specs.declared.story.starting.StoryStart.{StoryStart}
use Rattle.worker.specs.Going.{HaveStarted}
use Rattle.worker.specs.rules.StoryDisks.{TellsLives}
use Rattle.story_commands.specs.declared.sweeping.cutting.Sweep.{Sweep}
use Rattle.story_commands.specs.declared.sweeping.fault.SweepFault.{SweepFault}
use Rattle.story_commands.specs.declared.sweeping.running.RunLives.{RunLives}
use Rattle.story_commands.specs.rules.Sweeps.{HasDoneAll, front_left}
use Rattle.story_commands.specs.rules.Sweeps.{and_idle, given_when_opened, idle_life}
use Rattle.story_commands.specs.laws.CutRuns.{AgreesBehind, CallsBegun, HasRunCut, IsPlainRun}
use Rattle.story_commands.specs.laws.CutRuns.{IsStarted, IsSweepOf, IsSweptAt}

-- what the lives before the swept one have left, in the run without a cut
pub plain_started : (wasm : List ℕ) (config : Settings) (lives all : List PlannedLife) (place : ℕ)
    (reports : List LifeReport) (start : StoryStart) → place < length lives → all ≡ and_idle lives
    → HaveStarted wasm config (take place all) (take place reports) start
    → HaveStarted wasm config (take place lives) (take place reports) start
plain_started wasm config lives all place reports start within is started =
    subst (λ (ls : List PlannedLife). HaveStarted wasm config ls (take place reports) start)
    (ap (take place) is ∙ take-append-le place lives (idle_life ∷ []) (omega (arith, within)))
    started

-- so it has lives up to that place
pub idle_within : (lives all : List PlannedLife) (place : ℕ) → place < length lives
    → all ≡ and_idle lives → place ≤ length all
idle_within lives all place within is =
    omega (arith, within, ap length is, length-append lives (idle_life ∷ []))

-- ---- what is told of lists that are the same

pub told_so : (wasm : List ℕ) (config : Settings) (lives lives' : List PlannedLife)
    (reports reports' : List LifeReport) → lives ≡ lives' → reports ≡ reports'
    → TellsLives wasm config lives reports → TellsLives wasm config lives' reports'
told_so wasm config lives lives' reports reports' same told tells =
    subst (λ (ls : List PlannedLife). TellsLives wasm config ls reports') same
    (subst (TellsLives wasm config lives) told tells)

pub started_so : (wasm : List ℕ) (config : Settings) (place : ℕ)
    (lives lives' : List PlannedLife) (reports reports' : List LifeReport)
    (found : Option StoryStart) → lives ≡ lives' → reports ≡ reports'
    → IfSome found (HaveStarted wasm config (take place lives) (take place reports))
    → IfSome found (HaveStarted wasm config (take place lives') (take place reports'))
started_so wasm config place lives lives' reports reports' None same told started = tt
started_so wasm config place lives lives' reports reports' (Some start) same told started =
    subst (λ (ls : List PlannedLife). HaveStarted wasm config (take place ls)
    (take place reports') start) same
    (subst (λ (rs : List LifeReport). HaveStarted wasm config (take place lives) (take place rs)
    start) told started)

pub told_behind : (wasm : List ℕ) (config : Settings) (start : StoryStart)
    (lives : List PlannedLife) (reports : List LifeReport)
    (result : Result (List LifeReport) SweepFault) → IfOk result (λ told. told ≡ reports)
    → ((earlier : List PlannedLife) (before : List LifeReport)
    → HaveStarted wasm config earlier before start
    → TellsLives wasm config (earlier ++ lives) (before ++ reports))
    → IfOk result (λ told. (earlier : List PlannedLife) (before : List LifeReport)
    → HaveStarted wasm config earlier before start
    → TellsLives wasm config (earlier ++ lives) (before ++ told))
told_behind wasm config start lives reports (Ok told) same tells =
    λ earlier before started. subst
    (λ (rs : List LifeReport). TellsLives wasm config (earlier ++ lives) (before ++ rs))
    (sym same) (tells earlier before started)
told_behind wasm config start lives reports (Err why) same tells = tt

-- ---- cuts

-- an item behind others
get_behind : {X : Type 0} (front xs : List X) (n k : ℕ) → n ≡ length front + k
    → slice_get (front ++ xs) n ≡ slice_get xs k
get_behind [] xs n k is = ap (slice_get xs) (omega (arith, is))
get_behind (x ∷ front) xs zero k is = absurd (omega (arith, is))
get_behind (x ∷ front) xs (suc n) k is = get_behind front xs n k (omega (arith, is))

-- a cut that was run, and agrees
pub cut_agrees : (sweep : Sweep) (place : FaultPoint) (given : ℕ) (in_write : Bool)
    (reports : List LifeReport) → IsStarted sweep → HasRunCut sweep place given reports
    → front_left 0 reports ≡ Some in_write → AgreesBehind sweep given reports
    → IsSweptAt sweep place in_write
cut_agrees sweep place given in_write reports is run front all =
    let before = sweep.part.told_before.now in
    let at : ℕ = length sweep.part.earlier.now in
    let each : length before ≡ at = is.each in
    record {
      given = given;
      reports = before ++ reports;
      tells = run.tells;
      done = subst (All HasDoneAll) (sym (take_at before reports at each)) is.done;
      stopped =
          ap (option_map (λ (report : LifeReport). report.ended))
          (get_behind before reports at 0 (omega (arith, each))) ∙ all.stopped;
      front =
          ap (option_map (λ (report : LifeReport). report.has_torn_front))
          (get_behind before reports at 0 (omega (arith, each))) ∙ front;
      opened =
          ap (option_and_then (λ (report : LifeReport). given_when_opened report.opened))
          (get_behind before reports (at + 1) 1 (omega (arith, each))) ∙ all.agrees.opened;
      finished =
          subst (All HasDoneAll)
          (sym (sym (drop-drop 1 at (before ++ reports))
          ∙ ap (drop 1) (drop_at before reports at each))) all.agrees.finished;
      more = all.agrees.more;
      agrees = all.agrees.agrees;
    }

-- the lives before the swept one, as they were run without a cut
pub is_started : (wasm : List ℕ) (config : Settings) (lives : List PlannedLife) (place : ℕ)
    (plain : RunLives) (start : StoryStart) (sweep : Sweep) (calls : ℕ)
    → IsPlainRun wasm config lives plain → CallsBegun plain.reports place calls
    → place < length lives
    → HaveStarted wasm config (take place lives) (take place plain.reports) start
    → IsSweepOf wasm config lives place plain.reports sweep → sweep.start.now ≡ start
    → IsStarted sweep
is_started wasm config lives place plain start sweep calls is begun within started of same =
    let told : place < length plain.reports =
    slice_get_within plain.reports place begun.0 begun.1 in
    record {
      started =
          subst (λ (w : List ℕ). HaveStarted w sweep.config.now sweep.part.earlier.now
          sweep.part.told_before.now sweep.start.now) (sym of.wasm_is)
          (subst (λ (c : Settings). HaveStarted wasm c sweep.part.earlier.now
          sweep.part.told_before.now sweep.start.now) (sym of.config_is)
          (subst (λ (ls : List PlannedLife). HaveStarted wasm config ls
          sweep.part.told_before.now sweep.start.now) (sym of.earlier)
          (subst (λ (rs : List LifeReport). HaveStarted wasm config (take place lives) rs
          sweep.start.now) (sym of.told_before)
          (subst (HaveStarted wasm config (take place lives) (take place plain.reports))
          (sym same) started))));
      each =
          ap length of.told_before
          ∙ length-take-le place plain.reports (omega (arith, told))
          ∙ sym (length-take-le place lives (omega (arith, within)))
          ∙ sym (ap length of.earlier);
      done =
          subst (All HasDoneAll) (sym of.told_before)
          (All-take HasDoneAll place plain.reports is.finished);
    }
