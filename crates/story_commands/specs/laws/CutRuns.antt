-- Steps of a sweep.
use Rattle.std.specs.Prelude.{◌≡◌, ◌≤◌, ℕ, ◌+◌, List, ◌++◌, Option, Some, None, Result, Ok, Err}
use Rattle.std.specs.Prelude.{Bool, true, drop, length, slice_get, take}
use Rattle.std.specs.List.{All, flat_map}
use Rattle.wasi_abi.specs.rules.Configs.{Settings}
use Rattle.sector_disk.specs.declared.fault_point.FaultPoint.{FaultPoint}
use Rattle.record_replay.specs.declared.line_list.NumberedLine.{NumberedLine}
use Rattle.worker.specs.declared.story.life.PlannedLife.{PlannedLife}
use Rattle.worker.specs.declared.story.report.LifeReport.{LifeReport}
use Rattle.worker.specs.declared.story.report.LifeEnd.TheVariants.{Stopped}
use Rattle.worker.specs.Going.{HaveStarted}
use Rattle.worker.specs.rules.StoryDisks.{TellsLives}
use Rattle.command_words.specs.rules.Printers.{PrinterState}
use Rattle.story_commands.specs.declared.sweeping.cutting.Sweep.{Sweep}
use Rattle.story_commands.specs.declared.sweeping.fault.SweepFault.{SweepFault}
use Rattle.story_commands.specs.declared.sweeping.fault.SweepFault.TheVariants as fault
use Rattle.story_commands.specs.declared.sweeping.running.RunLives.{RunLives}
use Rattle.story_commands.specs.rules.Sweeps.{AreTextsOf, AreCompared, AreCutsOf, AreCutsTo}
use Rattle.story_commands.specs.rules.Sweeps.{HadMemory, HasFailedPlan, HasDoneAll, IsCutRun}
use Rattle.story_commands.specs.rules.Sweeps.{IsDoneAgain, LeavesAnswers, and_idle, cut_at, end_at}
use Rattle.story_commands.specs.rules.Sweeps.{given_at, given_to, lines_told, lives_after}
use Rattle.story_commands.specs.rules.Sweeps.{swept_part}

-- The life at this place was opened, its worker was given so many answers by then, and all from it
-- on finished. The first texts of all lines are these, with those of other lives before.
pub record AgreesWith (texts : List NumberedLine) (before : List LifeReport) (place given : ℕ)
    (reports : List LifeReport) : Type 0 where
  pub opened : given_to place reports ≡ Some given
  pub finished : All HasDoneAll (drop place reports)
  pub more : List NumberedLine
  pub agrees : AreTextsOf (texts ++ more) (flat_map lines_told (before ++ reports))

-- the power was cut in the first of these lives, and all behind it agrees
pub record AgreesBehind (sweep : Sweep) (given : ℕ) (reports : List LifeReport) : Type 0 where
  pub stopped : end_at 0 reports ≡ Some Stopped
  pub agrees : AgreesWith sweep.texts.now sweep.part.told_before.now 1 given reports

-- lives were run, and none of them wanted memory
pub record AreRun (wasm : List ℕ) (config : Settings) (run : RunLives) : Type 0 where
  pub tells : TellsLives wasm config run.lives run.reports
  pub fed : All HadMemory run.reports

-- the lives without a cut were run, and finished
pub record IsPlainRun (wasm : List ℕ) (config : Settings) (lives : List PlannedLife)
    (plain : RunLives) : Type 0 where
  pub lives_are : plain.lives ≡ and_idle lives
  pub run : AreRun wasm config plain
  pub finished : All HasDoneAll plain.reports

-- the lives without a cut were run, and those before this place have done all
pub record IsPlainUpTo (wasm : List ℕ) (config : Settings) (lives : List PlannedLife)
    (plain : RunLives) (place : ℕ) : Type 0 where
  pub lives_are : plain.lives ≡ and_idle lives
  pub run : AreRun wasm config plain
  pub done : All HasDoneAll (take place plain.reports)

-- The lives before the swept one have led to the start, were told so, and did all that they were
-- told.
pub record IsStarted (sweep : Sweep) : Type 0 where
  pub started : HaveStarted sweep.wasm.now sweep.config.now sweep.part.earlier.now
      sweep.part.told_before.now sweep.start.now
  pub each : length sweep.part.told_before.now ≡ length sweep.part.earlier.now
  pub done : All HasDoneAll sweep.part.told_before.now

-- the lives of a cut of what is swept, after which the worker was given so many answers
abbrev pub cut_of : Sweep → FaultPoint → ℕ → List PlannedLife
cut_of sweep point given = cut_at sweep.part.earlier.now sweep.part.swept.now
    sweep.part.told.now point sweep.part.before given

-- They were run, and this is told of them from the swept one on. None of these wanted memory.
pub record HasRunCut (sweep : Sweep) (point : FaultPoint) (given : ℕ) (reports : List LifeReport)
    : Type 0 where
  pub tells : TellsLives sweep.wasm.now sweep.config.now (cut_of sweep point given)
      (sweep.part.told_before.now ++ reports)
  pub fed : All HadMemory reports

-- they were run, with the power cut inside of a write or elsewhere, and agree
abbrev pub IsSweptAt : Sweep → FaultPoint → Bool → Type 0
IsSweptAt sweep point in_write = IsCutRun sweep.wasm.now sweep.config.now
    (swept_part sweep.part.earlier.now sweep.part.swept.now sweep.part.told.now
    sweep.part.before) sweep.texts.now point in_write

-- so many cuts were made of the calls up to this one, and agree
abbrev pub HaveAgreed : Sweep → ℕ → List ℕ → ℕ → Type 0
HaveAgreed sweep calls fronts cuts = (points : List FaultPoint)
    × AreCutsTo (IsSweptAt sweep) calls fronts points × (cuts ≡ length points)

-- behind so many cuts those of this call were made, and agree
abbrev pub HasAgreed : Sweep → ℕ → List ℕ → ℕ → ℕ → Type 0
HasAgreed sweep call fronts before cuts = (points : List FaultPoint)
    × AreCutsOf (IsSweptAt sweep) call fronts points × (cuts ≡ before + length points)

-- so many calls were begun in the life at this place
abbrev pub CallsBegun : List LifeReport → ℕ → ℕ → Type 0
CallsBegun told place calls =
    (life : LifeReport) × (slice_get told place ≡ Some life) × (calls ≡ life.calls)

-- what is swept is of these lives, from this place on, and of what was told of them
pub record IsSweepOf (wasm : List ℕ) (config : Settings) (lives : List PlannedLife) (place : ℕ)
    (told : List LifeReport) (sweep : Sweep) : Type 0 where
  pub wasm_is : sweep.wasm.now ≡ wasm
  pub config_is : sweep.config.now ≡ config
  pub earlier : sweep.part.earlier.now ≡ take place lives
  pub told_before : sweep.part.told_before.now ≡ take place told
  pub swept : sweep.part.swept.now ≡ drop place lives
  pub told_is : sweep.part.told.now ≡ drop place told

-- the lives without a cut finished, with these texts, and so many calls of the life at this place
pub record IsToldPlain (wasm : List ℕ) (config : Settings) (lives : List PlannedLife) (place : ℕ)
    (plain : RunLives) (texts : List NumberedLine) (calls : ℕ) : Type 0 where
  pub is_plain : IsPlainRun wasm config lives plain
  pub texts_are : AreTextsOf texts (flat_map lines_told plain.reports)
  pub begun : CallsBegun plain.reports place calls

-- ---- faults

-- a cut up to this call was run
abbrev pub IsCutFault : Sweep → ℕ → SweepFault → Type 0
IsCutFault sweep calls fault.Memory = Unit {0}
IsCutFault sweep calls (fault.Differs run) = (point : FaultPoint) × (given : ℕ)
    × (point.call ≤ calls) × (run.lives ≡ cut_of sweep point given)
    × HasRunCut sweep point given run.reports
IsCutFault sweep calls other = ⊥

-- the lives after a cut were run without one
abbrev pub IsTestFault : Sweep → SweepFault → Type 0
IsTestFault sweep fault.Memory = Unit {0}
IsTestFault sweep (fault.Upgrade run) = (before : ℕ)
    × TellsLives sweep.wasm.now sweep.config.now
    (and_idle sweep.part.earlier.now ++ lives_after sweep.part.swept.now sweep.part.told.now
    before (given_at 0 sweep.part.told.now)) run.reports × All HadMemory run.reports
IsTestFault sweep other = ⊥

-- the lives without a cut were run
abbrev pub IsPlanFault : List ℕ → Settings → List PlannedLife → SweepFault → Type 0
IsPlanFault wasm config lives fault.Memory = Unit {0}
IsPlanFault wasm config lives (fault.Plan number why) = HasFailedPlan wasm config lives number why
IsPlanFault wasm config lives (fault.Differs run) =
    (run.lives ≡ and_idle lives) × AreRun wasm config run
IsPlanFault wasm config lives other = ⊥

-- the lives without a cut leave answers
abbrev pub IsLeavingFault : List ℕ → Settings → List PlannedLife → SweepFault → Type 0
IsLeavingFault wasm config lives fault.Memory = Unit {0}
IsLeavingFault wasm config lives (fault.AnswersLeft number taken all) =
    LeavesAnswers wasm config lives number taken all
IsLeavingFault wasm config lives other = ⊥

-- what was run, by why a sweep ends early
abbrev pub IsSweepFault : List ℕ → Settings → List PlannedLife → ℕ → SweepFault → Type 0
IsSweepFault wasm config lives place fault.Memory = Unit {0}
IsSweepFault wasm config lives place (fault.Plan number why) =
    HasFailedPlan wasm config lives number why
IsSweepFault wasm config lives place (fault.AnswersLeft number taken all) =
    LeavesAnswers wasm config lives number taken all
IsSweepFault wasm config lives place (fault.Upgrade run) = IsDoneAgain wasm config lives place
IsSweepFault wasm config lives place (fault.Differs run) = AreCompared wasm config lives place

-- it is found before anything is cut
abbrev pub IsFoundFirst : SweepFault → Type 0
IsFoundFirst (fault.Plan number why) = Unit {0}
IsFoundFirst (fault.AnswersLeft number taken all) = Unit {0}
IsFoundFirst (fault.Upgrade run) = Unit {0}
IsFoundFirst other = ⊥

-- Where there is no answer a write of the printer has failed, and else none has.
abbrev pub HeedsProgress : {A E : Type 0} → Result (Option A) E → PrinterState → PrinterState
    → Type 0
HeedsProgress (Ok None) old new = new.failed ≡ true
HeedsProgress (Ok (Some x)) old new = new.failed ≡ old.failed
HeedsProgress (Err fault) old new = new.failed ≡ old.failed
