-- What `wasmhost sweep` runs and compares: a script's lives, and then the same lives with the power
-- cut at each call of one of them (this project's own).
use Rattle.std.specs.Prelude.{◌≡◌, ◌⊎◌, ℕ, zero, suc, ◌+◌, ◌-◌, ◌<◌, ◌≤◌, max, Bool, true, false}
use Rattle.std.specs.Prelude.{if◌then◌else◌, length, map, take, drop, unwrap_or, slice_get, List}
use Rattle.std.specs.Prelude.{[], ◌∷◌, ◌++◌, Option, Some, None, option_and_then, option_map, codes}
use Rattle.std.specs.List.{All, Contains, flat_map, list_any}
use Rattle.std.specs.Option.{option_to_list}
use Rattle.wasi_abi.specs.declared.answer.Answer.{Answer}
use Rattle.wasi_abi.specs.rules.Configs.{Settings}
use Rattle.sector_disk.specs.declared.fault_point.FaultPoint.{FaultPoint}
use Rattle.record_replay.specs.declared.line_list.NumberedLine.{NumberedLine}
use Rattle.worker.specs.declared.story.life.PlannedAct.{PlannedAct}
use Rattle.worker.specs.declared.story.life.PlannedAct.TheVariants.{Checkpoint, Slice, Upgrade}
use Rattle.worker.specs.declared.story.life.PlannedLife.{PlannedLife}
use Rattle.worker.specs.declared.story.report.LifeEnd.{LifeEnd}
use Rattle.worker.specs.declared.story.report.LifeEnd.TheVariants.{Finished, Stopped, Failed}
use Rattle.worker.specs.declared.story.report.LifeReport.{LifeReport}
use Rattle.worker.specs.declared.story.report.Opening.{Opening}
use Rattle.worker.specs.declared.story.report.Opening.TheVariants.{Created, Recovered, Unopened}
use Rattle.sector_disk.specs.declared.fault.DiskFault.TheVariants as disk
use Rattle.worker.specs.declared.fault.WorkFault.TheVariants as work
use Rattle.worker.specs.declared.recover_fault.RecoverFault.{RecoverFault}
use Rattle.worker.specs.declared.recover_fault.RecoverFault.TheVariants as recover
use Rattle.worker.specs.rules.RecoverFaults.{wants_memory}
use Rattle.worker.specs.rules.StoryDisks.{TellsLives}
use Rattle.story_commands.specs.declared.sweeping.planning.TheConstants.{TO_QUESTION}
use Rattle.story_commands.specs.declared.stories.line.ScriptLine.{ScriptLine}
use Rattle.story_commands.specs.declared.stories.fault.LineCause.{LineCause}
use Rattle.story_commands.specs.declared.stories.fault.LineCause.TheVariants.{NotSwept}
use Rattle.story_commands.specs.declared.stories.fault.ScriptFault.{ScriptFault}
use Rattle.story_commands.specs.declared.stories.fault.ScriptFault.TheVariants as unread
use Rattle.story_commands.specs.declared.sweeping.reading.SweepScriptFault.{SweepScriptFault}
use Rattle.story_commands.specs.declared.sweeping.reading.SweepScriptFault.TheVariants as unswept
use Rattle.story_commands.specs.rules.Scripts.{IsFaultIn, IsScript}

-- ---- scripts

-- nothing befalls this life
pub record IsCalm (life : PlannedLife) : Type 0 where
  pub stop : life.stop ≡ None
  pub fail : life.fail ≡ None
  pub refuse : life.refuse ≡ None
  pub tears : life.tears ≡ []

-- a script that spells lives which nothing befalls
abbrev pub IsCalmScript : List (List ℕ) → List PlannedLife → Type 0
IsCalmScript texts lives = IsScript texts lives × All IsCalm lives

-- why a line can't be in a life of a sweep: it would befall the worker
abbrev pub swept_cause : ScriptLine → LineCause
swept_cause _ = NotSwept

-- what is wrong with such a script; out of memory says nothing of it
abbrev pub IsCalmScriptFault : List (List ℕ) → ScriptFault → Type 0
IsCalmScriptFault texts (unread.Line number why) =
    IsFaultIn IsCalmScript swept_cause texts number why
IsCalmScriptFault texts unread.Memory = Unit {0}

-- The life that is swept, by its place from 0 on: that of this number from 1 on, or the last one.
abbrev pub IsSweptLife : List PlannedLife → Option ℕ → ℕ → Type 0
IsSweptLife lives number place =
    (place < length lives) × (place + 1 ≡ unwrap_or number (length lives))

-- the lives that a script spells, and the place of the swept one
abbrev pub AreSweptLives : List (List ℕ) → Option ℕ → List PlannedLife → ℕ → Type 0
AreSweptLives texts number lives place =
    IsCalmScript texts lives × IsSweptLife lives number place

-- Why no life is swept: a line is faulty, or the script has no life of this number.
abbrev pub IsUnreadSweep : List (List ℕ) → Option ℕ → SweepScriptFault → Type 0
IsUnreadSweep texts number (unswept.Script fault) = IsCalmScriptFault texts fault
IsUnreadSweep texts number unswept.NoLife = (lives : List PlannedLife) × IsCalmScript texts lives
    × ((place : ℕ) → IsSweptLife lives number place → ⊥)

-- ---- the lives without a cut

-- a life that nothing befalls, with these answers and acts
abbrev pub calm_life : List Answer → List PlannedAct → PlannedLife
calm_life answers acts = record {
  answers = answers;
  acts = acts;
  stop = None;
  fail = None;
  refuse = None;
  tears = [];
}

-- a life that is only opened
abbrev pub idle_life : PlannedLife
idle_life = calm_life [] []

-- These lives, and one more, which shows what they leave.
abbrev pub and_idle : List PlannedLife → List PlannedLife
and_idle lives = lives ++ idle_life ∷ []

-- whether a life was opened
abbrev pub was_opened : Opening → Bool
was_opened Unopened = false
was_opened other = true

-- it was opened, and did all that it was told
pub record HasDoneAll (report : LifeReport) : Type 0 where
  pub opened : was_opened report.opened ≡ true
  pub ended : report.ended ≡ Finished

-- out of memory: a layer's, or that of the disk, which is in memory, too
abbrev pub is_out_of_memory : RecoverFault → Bool
is_out_of_memory (recover.Worker (work.Disk disk.Memory)) = true
is_out_of_memory other = wants_memory other

-- whether a life has ended so
abbrev pub is_starved : LifeEnd → Bool
is_starved (Failed why) = is_out_of_memory why
is_starved other = false

-- it hasn't ended for want of memory
abbrev pub HadMemory : LifeReport → Type 0
HadMemory report = is_starved report.ended ≡ false

-- ---- answers

-- the version of a process: its image begins with the mark DWIMAGE1 or DWIMAGE2
abbrev pub marked_version : List ℕ → ℕ
marked_version process_image = unwrap_or (slice_get process_image 7) 49 - 48

-- How many answers a worker was given by the time that a life has opened it, if it is opened. It
-- counts its upgrade to version 2 as one more.
abbrev pub given_when_opened : Opening → Option ℕ
given_when_opened (Created process_image) = Some 0
given_when_opened (Recovered generation steps answers lines process_image) =
    Some (answers - (marked_version process_image - 1))
given_when_opened Unopened = None

-- the same of the life at this place
abbrev pub given_to : ℕ → List LifeReport → Option ℕ
given_to place told =
    option_and_then (λ (report : LifeReport). given_when_opened report.opened)
    (slice_get told place)

-- the same, or 0
abbrev pub given_at : ℕ → List LifeReport → ℕ
given_at place told = unwrap_or (given_to place told) 0

-- what the first of these lives was given and kept, as the next one's opening says
abbrev pub kept_in : List LifeReport → List Answer → List Answer
kept_in told answers = take (given_at 1 told - given_at 0 told) answers

-- what these lives were given and kept, of which this was told
abbrev pub answers_kept : List PlannedLife → List LifeReport → List Answer
answers_kept [] told = []
answers_kept (life ∷ lives) told = kept_in told life.answers ++ answers_kept lives (drop 1 told)

-- a life that is saved behind all that it is told
abbrev pub checkpointed_life : PlannedLife → PlannedLife
checkpointed_life life = record life { acts = life.acts ++ Checkpoint ∷ [] }

-- So many answers a life takes that comes behind these. It is saved at its end, so the next one
-- tells all that its worker was given. None of them wanted memory.
pub record TakesAnswers (wasm : List ℕ) (config : Settings) (earlier : List PlannedLife)
    (life : PlannedLife) (taken : ℕ) : Type 0 where
  pub reports : List LifeReport
  pub tells : TellsLives wasm config (and_idle (earlier ++ checkpointed_life life ∷ [])) reports
  pub fed : All HadMemory reports
  pub taken_is : taken
      ≡ given_at (length earlier + 1) reports - given_at (length earlier) reports

-- the life at this place takes all answers that the script has for it
abbrev pub TakesAllAnswers : List ℕ → Settings → List PlannedLife → ℕ → Type 0
TakesAllAnswers wasm config lives place = (life : PlannedLife)
    → slice_get lives place ≡ Some life → (taken : ℕ)
    × TakesAnswers wasm config (take place lives) life taken × (length life.answers ≤ taken)

-- ---- the lives of a cut

-- the same life, with the power cut at this point
abbrev pub stopped_at : FaultPoint → PlannedLife → PlannedLife
stopped_at point life = record life { stop = Some point }

-- the first of these lives, with the power cut at this point
abbrev pub first_stopped : FaultPoint → List PlannedLife → List PlannedLife
first_stopped point lives = option_to_list (option_map (stopped_at point) (slice_get lives 0))

-- what a life is told to do
abbrev pub acts_of : PlannedLife → List PlannedAct
acts_of life = life.acts

-- whether that is to upgrade
abbrev pub is_upgrade : PlannedAct → Bool
is_upgrade Upgrade = true
is_upgrade other = false

-- A recovered worker is upgraded once it has asked for more than these answers, or has ended.
abbrev pub upgrading_life : List Answer → PlannedLife
upgrading_life answers = calm_life answers (Slice TO_QUESTION ∷ Upgrade ∷ [])

-- the same, where it is among these acts
abbrev pub upgrade_first : List PlannedAct → List Answer → List PlannedLife
upgrade_first acts answers =
    if list_any is_upgrade acts then upgrading_life answers ∷ [] else []

-- What is done again after a cut, of all that was kept, by a worker that has so many of these
-- answers. If it is to be upgraded, that comes first, with the answers up to `before`. A last life
-- has the other answers, and all acts.
abbrev pub done_again : List Answer → List PlannedAct → (before has : ℕ) → List PlannedLife
done_again kept acts before has =
    upgrade_first acts (drop has (take before kept))
    ++ calm_life (drop (max has before) kept) acts ∷ []

-- The lives after a cut of the first of these. Their worker was given so many answers in all.
abbrev pub lives_after : List PlannedLife → List LifeReport → (before given : ℕ)
    → List PlannedLife
lives_after swept told before given =
    done_again (answers_kept swept told) (flat_map acts_of swept) before
    (given - given_at 0 told)

-- The lives of a cut: those before the swept one, that one with the power cut, and those after it.
-- `told` is what the run without a cut has told from the swept life on.
abbrev pub cut_at : (earlier swept : List PlannedLife) → (told : List LifeReport) → FaultPoint
    → (before given : ℕ) → List PlannedLife
cut_at earlier swept told point before given =
    (earlier ++ first_stopped point swept) ++ lives_after swept told before given

-- ---- which cuts

-- the fronts of cuts, where none are asked for
abbrev pub default_fronts : List ℕ
default_fronts = codes "0,1,256,511,512"

-- a cut at this call, which leaves so many bytes of a write
abbrev pub cut_point : ℕ → ℕ → FaultPoint
cut_point call front = record { call = call; front = front }

-- a cut that was made, inside of a write or elsewhere
abbrev pub SomeCut : (FaultPoint → Bool → Type 0) → FaultPoint → Type 0
SomeCut Cuts point = (in_write : Bool) × Cuts point in_write

-- The cuts of a call, with each of these fronts. One that was made outside of a write leaves no
-- front, so it is the only one.
abbrev pub AreCutsOf : (FaultPoint → Bool → Type 0) → ℕ → List ℕ → List FaultPoint → Type 0
AreCutsOf Cuts call fronts points =
    ((points ≡ map (cut_point call) fronts) × All (SomeCut Cuts) points)
    ⊎ ((points ≡ map (cut_point call) (take 1 fronts)) × All (λ point. Cuts point false) points)

-- those of each call from 1 to this one
unfoldable pub AreCutsTo : (FaultPoint → Bool → Type 0) → ℕ → List ℕ → List FaultPoint → Type 0
AreCutsTo Cuts zero fronts points = points ≡ []
AreCutsTo Cuts (suc calls) fronts points = (earlier : List FaultPoint) × (these : List FaultPoint)
    × (points ≡ earlier ++ these) × AreCutsTo Cuts calls fronts earlier
    × AreCutsOf Cuts (suc calls) fronts these

-- ---- what is compared

-- the lines that lives have told, in order
abbrev pub lines_told : LifeReport → List NumberedLine
lines_told report = report.releases

-- The texts of these lines, from number 1 on: each line has the one text of its number, and no
-- number is missing.
pub record AreTextsOf (texts lines : List NumberedLine) : Type 0 where
  pub numbered : (i : ℕ) (line : NumberedLine) → slice_get texts i ≡ Some line
      → line.number ≡ i + 1
  pub one_text : All (λ line. slice_get texts (line.number - 1) ≡ Some line) lines
  pub none_missing : All (Contains lines) texts

-- ---- a sweep

-- whether the stop of the life at this place has left a front of a write
abbrev pub front_left : ℕ → List LifeReport → Option Bool
front_left place reports =
    option_map (λ (report : LifeReport). report.has_torn_front) (slice_get reports place)

-- how the life at this place has ended
abbrev pub end_at : ℕ → List LifeReport → Option LifeEnd
end_at place reports = option_map (λ (report : LifeReport). report.ended) (slice_get reports place)

-- a part of a script that is swept: the lives before the swept one, that one and those after it,
-- what the run without a cut has told of these, and how many answers come before an upgrade that is
-- done again
pub record SweptPartValue : Type 0 where
  pub earlier : List PlannedLife
  pub swept : List PlannedLife
  pub told : List LifeReport
  pub before : ℕ

-- a part of these
abbrev pub swept_part : (earlier swept : List PlannedLife) → List LifeReport → ℕ → SweptPartValue
swept_part earlier swept told before = record {
  earlier = earlier;
  swept = swept;
  told = told;
  before = before;
}

-- The lives of one cut were run. The power was cut there, inside of a write or elsewhere, and
-- nowhere else. Those after it were opened, handed out all answers that their worker hadn't been
-- given, and did all that they were told. Of all lines each number has one text, none is missing,
-- and the first texts are these.
pub record IsCutRun (wasm : List ℕ) (config : Settings) (of : SweptPartValue)
    (texts : List NumberedLine) (point : FaultPoint) (in_write : Bool) : Type 0 where
  pub given : ℕ
  pub reports : List LifeReport
  pub tells : TellsLives wasm config
      (cut_at of.earlier of.swept of.told point of.before given) reports
  pub done : All HasDoneAll (take (length of.earlier) reports)
  pub stopped : end_at (length of.earlier) reports ≡ Some Stopped
  pub front : front_left (length of.earlier) reports ≡ Some in_write
  pub opened : given_to (length of.earlier + 1) reports ≡ Some given
  pub finished : All HasDoneAll (drop (length of.earlier + 1) reports)
  pub more : List NumberedLine
  pub agrees : AreTextsOf (texts ++ more) (flat_map lines_told reports)

-- The lives were run without a cut, were opened, did all that they were told, and took all answers
-- that the script has for them. Then they were run with each cut of the life at this place: of a
-- read or a sync with one, of a write with one for each front. Those are so many cuts, and of the
-- lines so many numbers. `before` is how many answers come before an upgrade that is done again.
pub record IsSwept (wasm : List ℕ) (config : Settings) (lives : List PlannedLife) (place : ℕ)
    (fronts : List ℕ) (cuts lines : ℕ) : Type 0 where
  pub plain : List LifeReport
  pub tells : TellsLives wasm config (and_idle lives) plain
  pub finished : All HasDoneAll plain
  pub all_taken : (at : ℕ) → TakesAllAnswers wasm config lives at
  pub texts : List NumberedLine
  pub texts_are : AreTextsOf texts (flat_map lines_told plain)
  pub lines_are : lines ≡ length texts
  pub life : LifeReport
  pub life_is : slice_get plain place ≡ Some life
  pub before : ℕ
  pub made : List FaultPoint
  pub runs : AreCutsTo (IsCutRun wasm config (swept_part (take place lives) (drop place lives)
      (drop place plain) before) texts) life.calls fronts made
  pub cuts_are : cuts ≡ length made

-- ---- what else was run, where a sweep ends early

-- The run without a cut, in which the life of this number is the first that hasn't done all. It
-- has ended by this error. None of them wanted memory.
pub record HasFailedPlan (wasm : List ℕ) (config : Settings) (lives : List PlannedLife)
    (number : ℕ) (why : RecoverFault) : Type 0 where
  pub plain : List LifeReport
  pub tells : TellsLives wasm config (and_idle lives) plain
  pub fed : All HadMemory plain
  pub place : ℕ
  pub number_is : number ≡ place + 1
  pub within : place < length lives
  pub done : All HasDoneAll (take place plain)
  pub failed : end_at place plain ≡ Some (Failed why)

-- The life of this number is the first that takes fewer answers than the script has for it: so many
-- of so many.
pub record LeavesAnswers (wasm : List ℕ) (config : Settings) (lives : List PlannedLife)
    (number taken all : ℕ) : Type 0 where
  pub place : ℕ
  pub number_is : number ≡ place + 1
  pub life : PlannedLife
  pub life_is : slice_get lives place ≡ Some life
  pub before : (at : ℕ) → at < place → TakesAllAnswers wasm config lives at
  pub takes : TakesAnswers wasm config (take place lives) life taken
  pub all_is : all ≡ length life.answers
  pub fewer : taken < all

-- The lives after a cut, where the swept life does nothing and isn't cut. So the upgrade comes
-- again at the first question behind its answers. None of them wanted memory.
pub record IsDoneAgain (wasm : List ℕ) (config : Settings) (lives : List PlannedLife) (place : ℕ)
    : Type 0 where
  pub plain : List LifeReport
  pub tells : TellsLives wasm config (and_idle lives) plain
  pub finished : All HasDoneAll plain
  pub before : ℕ
  pub reports : List LifeReport
  pub again : TellsLives wasm config (and_idle (take place lives) ++ lives_after (drop place lives)
      (drop place plain) before (given_at 0 (drop place plain))) reports
  pub fed : All HadMemory reports

-- the lives of a cut at a call of the swept life
pub record IsCutOf (wasm : List ℕ) (config : Settings) (lives : List PlannedLife) (place : ℕ)
    (run : List PlannedLife) : Type 0 where
  pub plain : List LifeReport
  pub tells : TellsLives wasm config (and_idle lives) plain
  pub finished : All HasDoneAll plain
  pub life : LifeReport
  pub life_is : slice_get plain place ≡ Some life
  pub at : FaultPoint
  pub within : at.call ≤ life.calls
  pub before : ℕ
  pub given : ℕ
  pub run_is : run ≡ cut_at (take place lives) (drop place lives) (drop place plain) at before
      given

-- Lives were run that a sweep compares: those without a cut, or those of one. None of them wanted
-- memory.
pub record AreCompared (wasm : List ℕ) (config : Settings) (lives : List PlannedLife) (place : ℕ)
    : Type 0 where
  pub run : List PlannedLife
  pub reports : List LifeReport
  pub tells : TellsLives wasm config run reports
  pub fed : All HadMemory reports
  pub which : (run ≡ and_idle lives) ⊎ IsCutOf wasm config lives place run
