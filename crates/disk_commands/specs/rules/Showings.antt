-- What `wasmhost show` prints of a disk, and what its exit status says (this project's own).
use Rattle.std.specs.Prelude.{◌≡◌, ◌⊎◌, ℕ, ◌<◌, true, List, ◌++◌, codes, Result, Ok, Err}
use Rattle.wasi_abi.specs.rules.Versions.{version_number}
use Rattle.sector_disk.specs.rules.Medium.{Medium}
use Rattle.worker.specs.declared.recover_fault.RecoverFault.{RecoverFault}
use Rattle.worker.specs.declared.surveyed.Survey.{Survey}
use Rattle.worker.specs.rules.Surveys.{Surveys}
use Rattle.command_words.specs.rules.Printers.{PrinterState, Printers, IsSaid, SaysText}
use Rattle.command_words.specs.rules.Texts.{named_number}
use Rattle.command_words.specs.declared.status.Status.{Status}
use Rattle.command_words.specs.declared.status.Status.TheVariants as exit
use Rattle.disk_commands.specs.rules.DiskStatuses.{opening_fault, status_on_disk}

-- the line of a survey
abbrev pub survey_line : Survey → List ℕ
survey_line survey =
    named_number (codes "generation ") survey.generation
    ++ named_number (codes " steps ") survey.steps
    ++ named_number (codes " answers ") survey.answers
    ++ named_number (codes " lines ") survey.lines
    ++ named_number (codes " records ") survey.records
    ++ named_number (codes " version ") (version_number survey.version) ++ codes "\n"

-- the line is printed, and the status is `Done`; or a write has failed, and it is `Unwritten`
abbrev pub SaysSurvey : Survey → PrinterState → Status → PrinterState → Type 0
SaysSurvey survey old status new = SaysText (survey_line survey) exit.Done old status new

-- A survey is said, and nothing on the error output. Of a fault the status is told there, or
-- `Unwritten` where a write has failed, and nothing is printed on the output.
abbrev pub SaysResult : Result Survey RecoverFault → Printers → Printers → Status → Type 0
SaysResult (Ok survey) before after status =
    SaysSurvey survey before.out status after.out × (after.err ≡ before.err)
SaysResult (Err why) before after status =
    IsSaid (status_on_disk (opening_fault why)) before.err status after.err
    × (after.out ≡ before.out)

-- The disk was surveyed, and the result is said.
pub record ShowsDisk (disk disk' : Medium) (before after : Printers) (status : Status)
    : Type 0 where
  pub result : Result Survey RecoverFault
  pub surveys : Surveys result disk disk'
  pub says : SaysResult result before after status

-- It has this survey. Then its line is printed (0) or a write of it has failed (7), or the disk has
-- failed (4), or memory was refused (5), or a write of what is told of these has failed (7).
abbrev pub ShowsSurvey : Medium → Medium → PrinterState → PrinterState → PrinterState → Status
    → Survey → Type 0
ShowsSurvey disk disk' out out' err' status survey =
    SaysSurvey survey out status out' ⊎ ((status ≡ exit.IoError) × (disk.faults < disk'.faults))
    ⊎ (status ≡ exit.OutOfMemory) ⊎ ((status ≡ exit.Unwritten) × (err'.failed ≡ true))
