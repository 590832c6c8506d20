-- What is told of a worker's disk that is only looked at (this project's own).
use Rattle.std.specs.Prelude.{◌≡◌, ◌⊎◌, ℕ, ◌<◌, ◌≤◌, List, length, Result, Ok, Err}
use Rattle.wasm_syntax.specs.declared.module.Module.{Module}
use Rattle.wasi_abi.specs.rules.Configs.{Settings}
use Rattle.process_rules.specs.Runs.{Kept}
use Rattle.sector_disk.specs.declared.fault.DiskFault.{DiskFault}
use Rattle.sector_disk.specs.rules.DiskImage.{DiskImage}
use Rattle.sector_disk.specs.rules.Medium.{Medium}
use Rattle.disk_layout.specs.rules.Places.{geometry_of, total_sectors}
use Rattle.worker_store.specs.restart_theorem.Stands.{StandsFor}
use Rattle.worker.specs.declared.fault.WorkFault.TheVariants.{Disk}
use Rattle.worker.specs.declared.recover_fault.RecoverFault.{RecoverFault}
use Rattle.worker.specs.declared.recover_fault.RecoverFault.TheVariants.{Worker}
use Rattle.worker.specs.declared.surveyed.Survey.{Survey}
use Rattle.worker.specs.rules.Recoveries.{SaysNothing, MarksDecide, IsJustSynced, SyncFails}
use Rattle.worker.specs.rules.ShownDisks.{SurveysDisk}

-- The numbers of the process that an image has saved, and not of the one to which its records lead.
-- Also how many records there are, and the version of that process.
abbrev pub survey_of : {disk : DiskImage} {m : Module} {config : Settings}
    {kept : List Kept} {n : ℕ} → StandsFor disk m config kept n → Survey
survey_of stands = record {
  generation = stands.generation;
  steps = stands.saved.steps;
  answers = stands.saved.answers;
  lines = stands.saved.lines;
  records = length stands.records;
  version = stands.process.host.version;
}

-- P holds of the survey of whatever worker the image stands for, on a disk of so many sectors.
abbrev pub EachSurvey : ℕ → DiskImage → (Survey → Type 0) → Type 0
EachSurvey sectors disk P =
    (m : Module) (config : Settings) (kept : List Kept) (n : ℕ)
    (stands : StandsFor disk m config kept n)
    → total_sectors (geometry_of config (length stands.wasm)) ≤ sectors → P (survey_of stands)

-- this survey is told, or an error that says nothing of what is on the disk
abbrev pub TellsSurvey : Result Survey RecoverFault → Survey → Type 0
TellsSurvey (Ok told) survey = told ≡ survey
TellsSurvey (Err why) survey = SaysNothing why

-- A mark of a worker is missing just where the result says so, out of memory and faults of the disk
-- left aside. Else the survey of the worker is told. Whatever the image holds, the result is that
-- of it.
pub record SurveysFrom (sectors : ℕ) (disk : DiskImage) (result : Result Survey RecoverFault)
    : Type 0 where
  pub marks : MarksDecide disk result
  pub tells : EachSurvey sectors disk (TellsSurvey result)
  pub shown : SurveysDisk sectors disk result

-- A fault of the disk is told only where the disk has failed since.
abbrev pub HasFailedSince : Result Survey RecoverFault → Medium → Medium → Type 0
HasFailedSince result old new =
    (fault : DiskFault) → result ≡ Err (Worker (Disk fault)) → old.faults < new.faults

-- The disk couldn't be synced; or it was, and then it was only read. What it then shows decides the
-- result.
abbrev pub Surveys : Result Survey RecoverFault → Medium → Medium → Type 0
Surveys result old new =
    SyncFails {O = Unit {0}} result old new tt tt
    ⊎ (IsJustSynced old new × HasFailedSince result old new
    × ((image : DiskImage) → new.shows image → SurveysFrom old.sectors image result))
