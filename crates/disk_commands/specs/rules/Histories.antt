-- What `wasmhost history` says of a disk (this project's own).
use Rattle.std.specs.Prelude.{ℕ, ◌+◌, ◌-◌, Bool, List, [], ◌∷◌, ◌++◌, length, codes, Some, Result}
use Rattle.std.specs.Prelude.{Ok, Err, slice_get, if◌then◌else◌}
use Rattle.std.specs.Fmt.{decimal}
use Rattle.std.specs.List.{flat_map}
use Rattle.std.specs.Option.{option_map_or}
use Rattle.sector_disk.specs.rules.Medium.{Medium}
use Rattle.disk_layout.specs.rules.Journal.{Record}
use Rattle.process_rules.specs.Runs.{request_taken}
use Rattle.worker.specs.declared.inspection.Inspection.{Inspection}
use Rattle.worker.specs.declared.recover_fault.RecoverFault.{RecoverFault}
use Rattle.worker.specs.rules.Inspections.{Inspects}
use Rattle.command_words.specs.rules.Printers.{Printers}
use Rattle.command_words.specs.rules.Records.{answer_words, record_line}
use Rattle.command_words.specs.declared.status.Status.{Status}
use Rattle.disk_commands.specs.rules.Inspectings.{SaysOrWants, SaysRefusal}

-- Records, each on a line, where so many requests were taken before them. So the first request
-- among them has the number after that.
abbrev pub records_text : ℕ → List Record → List ℕ
records_text taken [] = []
records_text taken (r ∷ records) =
    record_line (taken + 1) r ++ records_text (taken + request_taken (Some r.answer)) records

-- ---- as a script of `story`

-- what was answered, on a line
abbrev pub given_line : Record → List ℕ
given_line r = answer_words r.answer ++ codes "\n"

-- the step of the last of these records, or this one where there are none
abbrev pub step_of_last : ℕ → List Record → ℕ
step_of_last step records =
    option_map_or (λ (r : Record). r.step) (slice_get records (length records - 1)) step

-- A life: its answers, and one slice. That takes the steps from this one up to the last record's,
-- and 100,000 more.
abbrev pub given_life : ℕ → List Record → List ℕ
given_life step records = codes "life\n" ++ flat_map given_line records
    ++ codes "slice " ++ decimal (step_of_last step records - step + 100000) ++ codes "\n"

-- ---- what is said

-- the records after a disk's newest snapshot, one a line or as a script
abbrev pub history_text : Bool → Inspection → List ℕ
history_text as_story told =
    if as_story then given_life told.process.steps told.records.items
    else records_text told.process.requests told.records.items

-- what is said of a disk that was inspected
abbrev pub SaysHistory : Bool → Result Inspection RecoverFault → Printers → Printers → Status
    → Type 0
SaysHistory as_story (Ok told) before after status =
    SaysOrWants (history_text as_story told) before after status
SaysHistory as_story (Err why) before after status = SaysRefusal why before after status

-- The disk was inspected, and the records that it holds are said.
pub record TellsHistory (as_story : Bool) (disk disk' : Medium) (before after : Printers)
    (status : Status) : Type 0 where
  pub result : Result Inspection RecoverFault
  pub inspects : Inspects result disk disk'
  pub says : SaysHistory as_story result before after status
