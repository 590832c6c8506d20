-- What `wasmhost story` prints of lives, and what its exit status says (this project's own).
use Rattle.std.specs.Prelude.{◌≡◌, ◌⊎◌, ℕ, ◌+◌, List, [], ◌∷◌, ◌++◌, Option, codes}
use Rattle.std.specs.Io.KnownBytes.{Appends}
use Rattle.hex.specs.Hex.{encode_lower}
use Rattle.sha2.specs.Sha256.{sha256}
use Rattle.record_replay.specs.declared.line_list.NumberedLine.{NumberedLine}
use Rattle.worker.specs.declared.story.life.PlannedLife.{PlannedLife}
use Rattle.worker.specs.declared.story.report.Opening.{Opening}
use Rattle.worker.specs.declared.story.report.Opening.TheVariants.{Created, Recovered, Unopened}
use Rattle.worker.specs.declared.fault.WorkFault.TheVariants as work
use Rattle.worker.specs.declared.upgrade_fault.UpgradeFault.TheVariants as upgrade
use Rattle.worker.specs.declared.recover_fault.RecoverFault.{RecoverFault}
use Rattle.worker.specs.declared.recover_fault.RecoverFault.TheVariants.{Worker}
use Rattle.worker.specs.declared.story.report.LifeEnd.{LifeEnd}
use Rattle.worker.specs.declared.story.report.LifeEnd.TheVariants.{Failed}
use Rattle.worker.specs.declared.story.report.LifeReport.{LifeReport}
use Rattle.record_replay.specs.declared.slices.fault.Refusal.TheVariants as refusal
use Rattle.record_replay.specs.declared.slices.fault.SliceFault.TheVariants as slice
use Rattle.worker.specs.rules.StoryDisks.{TellsLives}
use Rattle.command_words.specs.declared.configuring.Sizes.{Sizes}
use Rattle.command_words.specs.declared.preparing.Prepared.{Prepared}
use Rattle.command_words.specs.declared.preparing.Unprepared.{Unprepared}
use Rattle.wasi_abi.specs.rules.Configs.{Settings}
use Rattle.command_words.specs.rules.Preparations.{IsPreparedAs, IsUnprepared, config_as}
use Rattle.command_words.specs.rules.Preparations.{status_unprepared}
use Rattle.command_words.specs.rules.Pieces.{lines_of}
use Rattle.command_words.specs.rules.Printers.{Printers, HeedsBoth}
use Rattle.command_words.specs.rules.Texts.{named_number, printed}
use Rattle.command_words.specs.declared.status.Status.{Status}
use Rattle.command_words.specs.declared.status.Status.TheVariants as exit
use Rattle.story_commands.specs.declared.stories.fault.LineCause.{LineCause}
use Rattle.story_commands.specs.declared.stories.fault.LineCause.TheVariants as cause
use Rattle.story_commands.specs.rules.Scripts.{IsScript, IsFaultAt}

-- ---- the text

-- the SHA-256 of an image, in hexadecimal digits, at the end of a line
abbrev pub process_image_text : List ℕ → List ℕ
process_image_text process_image = codes " image " ++ encode_lower
    (sha256 process_image) ++ codes "\n"

-- how a life was opened, as it is printed: of a recovered one its numbers and its image
abbrev pub opening_line : ℕ → Opening → List ℕ
opening_line number (Created process_image) = named_number (codes "life ") number
    ++ codes " created\n"
opening_line number (Recovered generation steps answers lines process_image) =
    named_number (codes "life ") number
    ++ named_number (codes " recovered generation ") generation
    ++ named_number (codes " steps ") steps
    ++ named_number (codes " answers ") answers
    ++ named_number (codes " lines ") lines
    ++ process_image_text process_image
opening_line number Unopened = named_number (codes "life ") number ++ codes " not opened\n"

-- a released line, as a run prints it
abbrev pub release_text : NumberedLine → List ℕ
release_text line = printed line.number (record { stream = line.stream; text = line.text })

-- the text of lines that were released, one after another
abbrev pub releases_text : List NumberedLine → List ℕ
releases_text [] = []
releases_text (line ∷ lines) = release_text line ++ releases_text lines

-- The code and the name of an error by which a life ends that was opened. Of a store only the
-- number of a generation is at its end then.
abbrev pub error_name : RecoverFault → List ℕ
error_name (Worker (work.Disk fault)) = codes "N1 Disk"
error_name (Worker (work.Work slice.Source)) = codes "N2 Source"
error_name (Worker (work.Work slice.Outlet)) = codes "N3 Outlet"
error_name (Worker (work.Work slice.Memory)) = codes "N4 Memory"
error_name (Worker (work.Work slice.Failed)) = codes "N5 Failed"
error_name (Worker (work.Work (slice.Refused refusal.StepsSpent))) = codes "P3 StepsSpent"
error_name (Worker (work.Store fault)) = codes "S1 TooBig"
error_name (Worker (work.Upgrade upgrade.JournalTooSmall)) = codes "N7 JournalTooSmall"
error_name (Worker (work.Upgrade upgrade.NotCaughtUp)) = codes "N8 NotCaughtUp"
error_name other = codes "N6 Refused"

-- the line that tells by which error a life ended that was opened, if by one
abbrev pub end_line : ℕ → Opening → LifeEnd → List ℕ
end_line number Unopened ended = []
end_line number how (Failed why) =
    named_number (codes "life ") number ++ codes " ended " ++ error_name why ++ codes "\n"
end_line number how ended = []

-- how a life was opened, its lines, and the error by which it ended
abbrev pub life_text : ℕ → LifeReport → List ℕ
life_text number report = opening_line number report.opened ++ releases_text report.releases
    ++ end_line number report.opened report.ended

-- lives with the numbers from `first` on
abbrev pub story_text : ℕ → List LifeReport → List ℕ
story_text first [] = []
story_text first (report ∷ reports) = life_text first report ++ story_text (first + 1) reports

-- ---- the exit status

-- what a worker of a story is configured with: its name is its one argument
abbrev pub story_config : Sizes → Settings
story_config sizes = config_as sizes [] []

-- the words for why a line of a script is refused
abbrev pub line_cause_words : LineCause → List ℕ
line_cause_words cause.Empty = codes "a line isn't empty"
line_cause_words cause.UnknownWord = codes "no line begins with this word"
line_cause_words cause.WordStandsAlone = codes "nothing may follow this word"
line_cause_words cause.WordLacksMore = codes "a space and more must follow this word"
line_cause_words cause.NotANumber =
    codes "a number is decimal digits, one space behind what is before it"
line_cause_words cause.NumberTooLarge = codes "a number is at most 18446744073709551615"
line_cause_words cause.NumberIsZero = codes "this number is from 1 on"
line_cause_words cause.SecondNumberMissing = codes "two numbers must follow this word"
line_cause_words cause.FrontTooLarge = codes "a front is at most 512"
line_cause_words cause.NotHexadecimal =
    codes "random bytes are hexadecimal digits, two for each"
line_cause_words cause.NotFronts =
    codes "tears are numbers up to 512, with one space between each two"
line_cause_words cause.NoLifeBegun = codes "a script begins with life"
line_cause_words cause.SecondStop = codes "a life has at most one stop"
line_cause_words cause.SecondFail = codes "a life has at most one fail"
line_cause_words cause.SecondRefuse = codes "a life has at most one refuse"
line_cause_words cause.SecondTears = codes "a life has at most one line of tears"
line_cause_words cause.NotSwept = codes "a sweep takes no stop, fail, refuse or tears"

-- the lines that tell of a faulty line of the script, and why it is refused
abbrev pub script_lines : ℕ → LineCause → List ℕ
script_lines number why = named_number (codes "failed script line ") number ++ codes "\n"
    ++ line_cause_words why ++ codes "\n"

-- The script spells lives, the module is accepted, and the text of what the worker's lives were is
-- printed whole.
pub record IsStoryPrinted (script wasm : List ℕ) (sizes : Sizes) (out out' : Option (List ℕ))
    : Type 0 where
  pub lives : List PlannedLife
  pub spelled : IsScript (lines_of script) lives
  pub prepared : Prepared
  pub prepares : IsPreparedAs (story_config sizes) wasm prepared
  pub reports : List LifeReport
  pub tells : TellsLives wasm (story_config sizes) lives reports
  pub printed_whole : Appends out out' (story_text 1 reports)

-- A line of the script is faulty, and its number and why it is refused are told.
pub record IsLineReported (script : List ℕ) (err err' : Option (List ℕ)) : Type 0 where
  pub number : ℕ
  pub why : LineCause
  pub faulty : IsFaultAt (lines_of script) number why
  pub said : Appends err err' (script_lines number why)

-- The script spells lives, and the configuration is out of its limits or the module isn't accepted.
pub record IsStoryRefused (script wasm : List ℕ) (sizes : Sizes) : Type 0 where
  pub lives : List PlannedLife
  pub spelled : IsScript (lines_of script) lives
  pub why : Unprepared
  pub unprepared : IsUnprepared (story_config sizes) wasm why
  pub refused : status_unprepared why ≡ exit.Refused

-- `Done`: the story is told. `Usage`: a line of the script is faulty. `Refused`: the worker is
-- refused. `OutOfMemory`: there is no memory. `Unwritten`: a write of a printer has failed. Nothing
-- is printed on the output but a whole story, and nothing on the error output beside one.
pub record TellsStory (script wasm : List ℕ) (sizes : Sizes) (before after : Printers)
    (status : Status) : Type 0 where
  pub told : status ≡ exit.Done
      → IsStoryPrinted script wasm sizes before.out.contents after.out.contents
      × (after.err ≡ before.err)
  pub faulty : status ≡ exit.Usage
      → IsLineReported script before.err.contents after.err.contents × (after.out ≡ before.out)
  pub refused : status ≡ exit.Refused → IsStoryRefused script wasm sizes × (after.out ≡ before.out)
  pub starved : status ≡ exit.OutOfMemory → after.out ≡ before.out
  pub heeded : HeedsBoth before after status
  pub known : (status ≡ exit.Done) ⊎ (status ≡ exit.Usage) ⊎ (status ≡ exit.Refused)
      ⊎ (status ≡ exit.OutOfMemory) ⊎ (status ≡ exit.Unwritten)
