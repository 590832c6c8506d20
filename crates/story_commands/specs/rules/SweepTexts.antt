-- What `wasmhost sweep` prints, and what its exit status says (this project's own).
use Rattle.std.specs.Prelude.{◌≡◌, ◌⊎◌, ℕ, ◌==◌, ◌%◌, nat_lt, if◌then◌else◌, List, [], ◌∷◌, ◌++◌}
use Rattle.std.specs.Prelude.{length, Option, codes}
use Rattle.std.specs.Fmt.{decimal}
use Rattle.std.specs.Io.KnownBytes.{Appends}
use Rattle.wasi_abi.specs.rules.Answers.{newline}
use Rattle.worker.specs.declared.recover_fault.RecoverFault.{RecoverFault}
use Rattle.worker.specs.declared.story.life.PlannedLife.{PlannedLife}
use Rattle.command_words.specs.declared.configuring.Sizes.{Sizes}
use Rattle.command_words.specs.declared.preparing.Prepared.{Prepared}
use Rattle.command_words.specs.rules.Preparations.{IsPreparedAs}
use Rattle.command_words.specs.rules.Pieces.{lines_of}
use Rattle.command_words.specs.declared.telling.Obstacle.TheVariants.{NoLife}
use Rattle.command_words.specs.rules.Printers.{PrinterState, Printers, IsSaid, SaysText, HeedsBoth}
use Rattle.command_words.specs.rules.Reports.{SaysLine, obstacle_words}
use Rattle.command_words.specs.rules.Texts.{named_number}
use Rattle.command_words.specs.declared.status.Status.{Status}
use Rattle.command_words.specs.declared.status.Status.TheVariants as exit
use Rattle.story_commands.specs.declared.stories.fault.LineCause.{LineCause}
use Rattle.story_commands.specs.declared.stories.fault.ScriptFault.TheVariants as unread
use Rattle.story_commands.specs.declared.sweeping.reading.SweepScriptFault.{SweepScriptFault}
use Rattle.story_commands.specs.declared.sweeping.reading.SweepScriptFault.TheVariants as unswept
use Rattle.story_commands.specs.rules.Stories.{error_name, script_lines, story_config}
use Rattle.story_commands.specs.rules.Sweeps.{AreCompared, AreSweptLives, HasFailedPlan}
use Rattle.story_commands.specs.rules.Sweeps.{IsDoneAgain, IsSwept, IsUnreadSweep, LeavesAnswers}

-- ---- the text

-- a comma, where so many digits are left, and they are groups of three
abbrev pub comma_before : ℕ → List ℕ
comma_before digits_left =
    if nat_lt 0 digits_left then (if digits_left % 3 == 0 then codes "," else []) else []

-- digits with such commas
abbrev pub grouped : List ℕ → List ℕ
grouped [] = []
grouped (digit ∷ digits) = (digit ∷ comma_before (length digits)) ++ grouped digits

-- so many things of this name: one, or several
abbrev pub quantity : ℕ → List ℕ → List ℕ
quantity number name =
    grouped (decimal number) ++ codes " " ++ name ++ (if number == 1 then [] else codes "s")

-- how many cuts agree, and how many lines were told
abbrev pub swept_line : ℕ → ℕ → List ℕ
swept_line cuts lines = codes "swept " ++ quantity cuts (codes "cut") ++ codes ": "
    ++ quantity lines (codes "line") ++ codes ", each told with one text\n"

-- by which error the life of this number has ended
abbrev pub plan_line : ℕ → RecoverFault → List ℕ
plan_line number why = codes "the script's " ++ (named_number (codes "life ") number
    ++ codes " ended " ++ error_name why ++ codes "\n")

-- how many of its answers the life of this number takes, and what to do
abbrev pub answers_left_line : (number taken all : ℕ) → List ℕ
answers_left_line number taken all = named_number (codes "the script's life ") number
    ++ codes " took " ++ decimal taken ++ codes " of " ++ decimal all
    ++ codes " answers: give its slices more steps, or take answers out\n"

-- that an upgrade can't be done again
abbrev pub no_upgrade_line : List ℕ
no_upgrade_line = codes "the script's upgrade can't be done again after a cut" ++ newline ∷ []

-- ---- the exit status

-- The script spells lives that nothing befalls, the module is accepted, all cuts of one of the
-- lives were run and agree with the run without a cut, and the line with their number is printed.
pub record IsSweepDone (script wasm : List ℕ) (sizes : Sizes) (fronts : List ℕ)
    (number : Option ℕ) (out out' : Option (List ℕ)) : Type 0 where
  pub lives : List PlannedLife
  pub place : ℕ
  pub spelled : AreSweptLives (lines_of script) number lives place
  pub prepared : Prepared
  pub prepares : IsPreparedAs (story_config sizes) wasm prepared
  pub cuts : ℕ
  pub count : ℕ
  pub swept : IsSwept wasm (story_config sizes) lives place fronts cuts count
  pub printed_whole : Appends out out' (swept_line cuts count)

-- what is wrong with a script is printed, or memory is wanted for it
abbrev pub SaysScriptFault : SweepScriptFault → PrinterState → Status → PrinterState → Type 0
SaysScriptFault (unswept.Script (unread.Line number why)) old status new =
    SaysText (script_lines number why) exit.Usage old status new
SaysScriptFault (unswept.Script unread.Memory) old status new =
    IsSaid exit.OutOfMemory old status new
SaysScriptFault unswept.NoLife old status new =
    SaysLine (obstacle_words NoLife) exit.Usage old status new

-- The script spells lives that nothing befalls, the module is accepted, and this is so of them.
pub record IsOfScript (script wasm : List ℕ) (sizes : Sizes) (number : Option ℕ)
    (is : List PlannedLife → ℕ → Type 0) : Type 0 where
  pub lives : List PlannedLife
  pub place : ℕ
  pub spelled : AreSweptLives (lines_of script) number lives place
  pub prepared : Prepared
  pub prepares : IsPreparedAs (story_config sizes) wasm prepared
  pub holds : is lives place

-- Why nothing is cut, as it is printed: a line is faulty, or there is no such life. Or a life has
-- ended by an error without a cut, or takes fewer answers than the script has for it. Or the
-- upgrade can't be done again.
abbrev pub IsUnsweepable : List ℕ → List ℕ → Sizes → Option ℕ → Option (List ℕ)
    → Option (List ℕ) → Type 0
IsUnsweepable script wasm sizes number err err' =
    ((line : ℕ) × (why : LineCause)
    × IsUnreadSweep (lines_of script) number (unswept.Script (unread.Line line why))
    × Appends err err' (script_lines line why))
    ⊎ (IsUnreadSweep (lines_of script) number unswept.NoLife
    × Appends err err' (obstacle_words NoLife ++ newline ∷ []))
    ⊎ IsOfScript script wasm sizes number (λ lives place. (life : ℕ) × (why : RecoverFault)
    × HasFailedPlan wasm (story_config sizes) lives life why
    × Appends err err' (plan_line life why))
    ⊎ IsOfScript script wasm sizes number (λ lives place. (life : ℕ) × (taken : ℕ) × (all : ℕ)
    × LeavesAnswers wasm (story_config sizes) lives life taken all
    × Appends err err' (answers_left_line life taken all))
    ⊎ (IsOfScript script wasm sizes number (IsDoneAgain wasm (story_config sizes))
    × Appends err err' no_upgrade_line)

-- `Done`: all cuts were run, and agree. `Different`: these lives were run that differ. `Usage`:
-- nothing was cut, and it is told why. `Unwritten` comes just where a write of a printer has
-- failed. The others are `Refused` and `OutOfMemory`.
pub record TellsSweep (script wasm : List ℕ) (sizes : Sizes) (fronts : List ℕ)
    (number : Option ℕ) (before after : Printers) (status : Status) : Type 0 where
  pub done : status ≡ exit.Done
      → IsSweepDone script wasm sizes fronts number before.out.contents after.out.contents
  pub differs : status ≡ exit.Different
      → IsOfScript script wasm sizes number (AreCompared wasm (story_config sizes))
  pub unswept : status ≡ exit.Usage → (after.out ≡ before.out)
      × IsUnsweepable script wasm sizes number before.err.contents after.err.contents
  pub heeded : HeedsBoth before after status
  pub known : (status ≡ exit.Done) ⊎ (status ≡ exit.Different) ⊎ (status ≡ exit.Usage)
      ⊎ (status ≡ exit.Refused) ⊎ (status ≡ exit.OutOfMemory) ⊎ (status ≡ exit.Unwritten)
