-- A disk in a file whose worker goes on, as the words say (this project's own).
use Rattle.std.specs.Prelude.{◌≡◌, ◌⊎◌, ℕ, Bool, List, Option, Result, Ok, Err, false, IsTrue}
use Rattle.std.specs.Prelude.{IfSome}
use Rattle.std.specs.Int.NonZero.{non_zero_u64_get}
use Rattle.sector_disk.specs.declared.file.FileDisk.{FileDisk}
use Rattle.sector_disk.specs.rules.File.{file_medium}
use Rattle.sector_disk.specs.rules.Known.{KnownFiles, KnownHandles}
use Rattle.sector_disk.specs.rules.Medium.{Medium}
use Rattle.sector_disk.specs.rules.Open.{IsOpenedAt}
use Rattle.record_replay.specs.rules.Calls.{Taking}
use Rattle.command_words.specs.rules.Commands.{RunMeaning}
use Rattle.command_words.specs.rules.Printers.{PrinterState, Printers, printers, read_along}
use Rattle.command_words.specs.rules.Reports.{SaysOnOutput}
use Rattle.command_words.specs.declared.status.Status.{Status}
use Rattle.command_words.specs.declared.status.Status.TheVariants as exit
use Rattle.disk_commands.specs.declared.on_disk.found_file.FoundFile.{FoundFile}
use Rattle.disk_commands.specs.declared.on_disk.running.RunJob.{RunJob}
use Rattle.disk_commands.specs.declared.on_disk.upgrading.Upgraded.{Upgraded}
use Rattle.disk_commands.specs.rules.Leavings.{InputLeft, SaysOfInput}
use Rattle.disk_commands.specs.rules.Openings.{IsOpenedFor, SaysUnopened}
use Rattle.disk_commands.specs.rules.StatusFiles.{MayWatch, SaysUnwatchable, path_named}
use Rattle.disk_commands.specs.rules.Refusals.{HeedsRefusal}
use Rattle.disk_commands.specs.rules.SeedFiles.{IsSeedFrom, KnownSeedFiles, SaysSeedless}
use Rattle.disk_commands.specs.rules.ServedOnDisk.{DiskJob, ServesOnDisk, disk_job}
use Rattle.disk_commands.specs.rules.ServedOnDisk.{Outputs, RunStart, outputs, run_start, run_end}
use Rattle.disk_commands.specs.rules.ToldLines.{SaysTold, counted_printer, counting}
use Rattle.disk_commands.specs.rules.Upgradings.{UpgradesOnDisk, status_so_far, upgraded_words}

-- ---- a run

-- what calls of a run have said: of handles and of disks' paths, of what was found at a path, and
-- of files in which a seed may be
pub record KnownSystem (F : Type 0) : Type 0 where
  pub handles : KnownHandles F
  pub files : KnownFiles F
  pub has_found : List ℕ → FoundFile → Bool
  pub seeds : KnownSeedFiles

-- of these
abbrev pub known_system : {F : Type 0} → KnownHandles F → KnownFiles F → (List ℕ → FoundFile → Bool)
    → KnownSeedFiles → KnownSystem F
known_system handles files has_found seeds = record {
  handles = handles;
  files = files;
  has_found = has_found;
  seeds = seeds;
}

-- leave for all paths of the words of a run
pub record MayRun {F : Type 0} (files : KnownFiles F) (said : RunMeaning) : Type 0 where
  pub disk : IsTrue (files.may_write said.disk)
  pub seed : IfSome said.seed_file (λ path. IsTrue (files.may_read path))
  pub status : IfSome said.status (MayWatch files)
  pub metrics : IfSome said.metrics (MayWatch files)

-- the path of the status file of a job
abbrev pub named_status : RunJob → Option (List ℕ)
named_status job = path_named job.watched.status

-- the path of its file of metrics
abbrev pub named_metrics : RunJob → Option (List ℕ)
named_metrics job = path_named job.watched.metrics

-- The job is that of the words: their fuel, their pace, their lines for a sync, their clock or the
-- machine's, the seed that they spell or that was read of their file, and their files that say
-- where the worker is, with the path of its disk.
pub record IsJobOf (seeds : KnownSeedFiles) (said : RunMeaning) (job : RunJob) : Type 0 where
  pub fuel : non_zero_u64_get job.pace.fuel ≡ said.fuel
  pub every : non_zero_u64_get job.pace.every ≡ said.every
  pub batch : non_zero_u64_get job.pace.batch ≡ said.batch
  pub clock : job.outside.clock ≡ said.clock
  pub seed : IsSeedFrom seeds said.seed_file said.seed job.outside.seed
  pub status : named_status job ≡ said.status
  pub metrics : named_metrics job ≡ said.metrics
  pub disk : job.watched.disk.now ≡ said.disk

-- what such a run is given, with the lines of a reader, and whether a read of it has failed
abbrev pub job_given : RunJob → Option (List ℕ) → Bool → DiskJob
job_given job lines failed = disk_job (non_zero_u64_get job.pace.fuel)
    (non_zero_u64_get job.pace.every) (non_zero_u64_get job.pace.batch) lines job.outside failed

-- what a run reads: the lines of a reader, and whether a read of it has failed
pub record RunInput : Type 0 where
  pub lines : Option (List ℕ)
  pub failed : Bool

-- an input of these
abbrev pub run_input : Option (List ℕ) → Bool → RunInput
run_input lines failed = record { lines = lines; failed = failed }

module _ {D O : Type 0} (medium : D → Medium) (takes : Taking O) (path : List ℕ)
    (before : RunStart D O) (disk' : D) (after : Outputs O) (status : Status) where
  -- The worker is served. Then it is said what is left of the input, with this path of the disk.
  pub record ServesToEnd : Type 0 where
    pub failed' : Bool
    pub between : PrinterState
    pub served : Status
    pub serves : ServesOnDisk medium takes before (run_end disk' after.outlet between failed')
        served
    pub heeds : HeedsRefusal takes before.outlet after.outlet between served
    pub left : InputLeft
    pub named : left.disk ≡ path
    pub says : SaysOfInput left served between status after.err

-- It is said why there is no file at one of the paths that are named, by what was found there or
-- beside it, or by an error of the system, and nothing else is done. Or the worker is served.
abbrev pub RunsJob : {D O : Type 0} → (List ℕ → FoundFile → Bool) → (D → Medium) → Taking O → RunJob
    → RunStart D O → D → Outputs O → Status → Type 0
RunsJob has_found medium takes job before disk' after status =
    (SaysUnwatchable has_found (named_status job) (named_metrics job) before.err status after.err
    × (disk' ≡ before.disk) × (after.outlet ≡ before.outlet))
    ⊎ ServesToEnd medium takes job.watched.disk.now before disk' after status

-- It is said why the seed or the disk keeps it from running, and no line is released. Or the disk
-- was opened as the words say, their job was done on it, and it was closed. Where they ask for it
-- the error output is told what a person is told.
pub data RunsFile {F O : Type 0} (known : KnownSystem F) (takes : Taking O) (said : RunMeaning)
    (input : RunInput) (before after : Outputs O) (status : Status) : Type 0 where
  seedless : SaysSeedless known.seeds said.seed_file said.seed before.err status after.err
      → after.outlet ≡ before.outlet → RunsFile known takes said input before after status
  unopened : SaysUnopened known.handles known.files said.rewrites said.disk before.err status
      after.err
      → after.outlet ≡ before.outlet → RunsFile known takes said input before after status
  opened : (job : RunJob) → IsJobOf known.seeds said job → (disk : FileDisk F)
      (disk' : FileDisk F)
      → IsOpenedFor known.handles known.files said.rewrites said.disk disk
      → IsTrue (known.files.closed disk')
      → RunsJob known.has_found file_medium takes job
      (run_start (job_given job input.lines input.failed) disk before.outlet
      (read_along said.is_verbose before.err)) disk' after status
      → RunsFile known takes said input before after status

-- ---- an upgrade

-- Of a worker that is of version 2 that is said on the output. Else the status is that of the
-- error, and nothing more is said.
abbrev pub SaysUpgrade : Result Upgraded Status → Printers → Printers → Status → Type 0
SaysUpgrade (Ok upgraded) before after status =
    SaysOnOutput (upgraded_words upgraded) exit.Done before after status
SaysUpgrade (Err fault) before after status =
    (status ≡ fault) × (after.out ≡ before.out) × (after.err ≡ before.err)

-- That is said, and then, whatever it was, how many lines were told.
abbrev pub SaysUpgraded : Result Upgraded Status → ℕ → Printers → Printers → Status → Type 0
SaysUpgraded upgraded told before after status =
    (between : PrinterState) × (so_far : Status)
    × SaysUpgrade upgraded before (printers after.out between) so_far
    × SaysTold told so_far between status after.err

module _ {F : Type 0} (handles : KnownHandles F) (files : KnownFiles F) where
  -- The disk was opened at this path, and not written back. Its worker was brought to version 2,
  -- with its lines on the output, or that has failed. Then it was closed. The result is said, and
  -- last how many lines the output took in that life.
  pub record UpgradesOpened (path : List ℕ) (before after : Printers) (status : Status)
      : Type 0 where
    pub disk : FileDisk F
    pub disk' : FileDisk F
    pub at : IsOpenedAt handles files path disk
    pub closed : IsTrue (files.closed disk')
    pub upgraded : Result Upgraded Status
    pub between : Printers
    pub told : ℕ
    pub upgrades : UpgradesOnDisk file_medium counting upgraded disk disk'
        (outputs (counted_printer before.out 0) before.err)
        (outputs (counted_printer between.out told) between.err)
    pub heeds : HeedsRefusal counting (counted_printer before.out 0)
        (counted_printer between.out told) between.err (status_so_far upgraded)
    pub says : SaysUpgraded upgraded told between after status

  -- So it was. Or it is said why none was opened.
  abbrev pub UpgradesFile : List ℕ → Printers → Printers → Status → Type 0
  UpgradesFile path before after status =
      UpgradesOpened path before after status
      ⊎ (SaysUnopened handles files false path before.err status after.err
      × (after.out ≡ before.out))
