-- What is told of a disk, step by step.
use Rattle.std.specs.Prelude.{◌≡◌, ℕ, length, Option, Result, Ok, Err}
use Rattle.wasi_abi.specs.declared.answer.Question.{Question}
use Rattle.disk_layout.specs.declared.geometry.Geometry.{Geometry}
use Rattle.disk_layout.specs.declared.reading.contents.Contents.{Contents}
use Rattle.disk_layout.specs.rules.Held.{GivesContents}
use Rattle.sector_disk.specs.declared.fault.DiskFault.{DiskFault}
use Rattle.sector_disk.specs.rules.DiskImage.{DiskImage}
use Rattle.worker.specs.declared.fault.WorkFault.TheVariants.{Disk}
use Rattle.worker.specs.declared.found.Found.{Found}
use Rattle.worker.specs.declared.inspection.Inspection.{Inspection}
use Rattle.worker.specs.declared.recover_fault.RecoverFault.{RecoverFault}
use Rattle.worker.specs.declared.recover_fault.RecoverFault.TheVariants.{Worker}
use Rattle.worker.specs.rules.Inspections.{InspectsDisk, sectors_left}
use Rattle.worker.specs.rules.Questions.{TellsQuestion}

-- so many sectors of the journal are left, or the disk failed
abbrev pub CountsLeft : Geometry → ℕ → DiskImage → Result ℕ RecoverFault → Type 0
CountsLeft geometry generation disk (Ok left) = left ≡ sectors_left geometry disk generation
CountsLeft geometry generation disk (Err why) = (fault : DiskFault) × (why ≡ Worker (Disk fault))

-- the parts of what is told
abbrev pub inspection_of : Contents → Found → Option Question → ℕ → Inspection
inspection_of contents found question left = record {
  contents = contents;
  generation = found.generation;
  process_image_bytes = length found.process_image;
  process = found.process;
  question = question;
  records = found.records;
  journal_left = left;
}

-- that, or the sectors couldn't be counted
abbrev pub inspection_or : Contents → Found → Option Question → Result ℕ RecoverFault
    → Result Inspection RecoverFault
inspection_or contents found question (Ok left) = Ok (inspection_of contents found question left)
inspection_or contents found question (Err why) = Err why

-- what is told of what was found, whose journal has so many sectors left
abbrev pub TellsFound : Contents → Found → Result ℕ RecoverFault → Result Inspection RecoverFault
    → Type 0
TellsFound contents found left result = (question : Option Question)
    × TellsQuestion found.process question
    × (result ≡ inspection_or contents found question left)

-- what is told where configuration and module were read
abbrev pub InspectsBehind : Contents → DiskImage → Result Inspection RecoverFault → Type 0
InspectsBehind contents disk result =
    (sectors : ℕ) → GivesContents sectors disk (Ok contents) → InspectsDisk sectors disk result
