-- A disk in a file whose worker goes on.
use Rattle.std.proofs.Common.{◌≡◌, refl, subst, sym, inl, inr, ℕ, Bool, List}
use Rattle.std.specs.Prelude.{Option, Result, IfSome, IsTrue}
use Rattle.std.specs.Int.NonZero.{non_zero_u64_get}
use Rattle.sector_disk.specs.declared.file.FileDisk.{FileDisk}
use Rattle.sector_disk.specs.rules.File.{file_medium}
use Rattle.sector_disk.specs.rules.Known.{KnownFiles, KnownHandles}
use Rattle.sector_disk.specs.rules.Medium.{Medium}
use Rattle.sector_disk.specs.rules.Open.{IsOpenedAt}
use Rattle.record_replay.specs.rules.Calls.{Taking}
use Rattle.command_words.specs.declared.lines.outside.Outside.{Outside}
use Rattle.command_words.specs.rules.Commands.{RunMeaning}
use Rattle.command_words.specs.rules.Printers.{PrinterState, printers, read_along}
use Rattle.command_words.specs.declared.status.Status.{Status}
use Rattle.disk_commands.specs.declared.on_disk.found_file.FoundFile.{FoundFile}
use Rattle.disk_commands.specs.declared.on_disk.running.RunJob.{RunJob}
use Rattle.disk_commands.specs.declared.on_disk.upgrading.Upgraded.{Upgraded}
use Rattle.disk_commands.specs.rules.Openings.{IsOpenedFor}
use Rattle.disk_commands.specs.rules.Refusals.{HeedsRefusal}
use Rattle.disk_commands.specs.rules.ServedFiles.{IsJobOf, KnownSystem, MayRun, RunsFile, RunsJob}
use Rattle.disk_commands.specs.rules.ServedFiles.{SaysUpgraded, ServesToEnd, UpgradesFile}
use Rattle.disk_commands.specs.rules.ServedFiles.{job_given, named_metrics, named_status, opened}
use Rattle.disk_commands.specs.rules.ServedFiles.{run_input, seedless}
use Rattle.disk_commands.specs.rules.SeedFiles.{KnownSeedFiles, SaysSeedless}
use Rattle.disk_commands.specs.rules.ServedOnDisk.{RunStart, disk_job, outputs, run_start}
use Rattle.disk_commands.specs.rules.StatusFiles.{MayWatch}
use Rattle.disk_commands.specs.rules.ToldLines.{CountedPrinter, counted_printer, counting}
use Rattle.disk_commands.specs.rules.Upgradings.{UpgradesOnDisk, status_so_far}

-- a worker that was served on the lines of a reader, of whose status file nothing was said
pub job_served : {D O : Type 0} (has_found : List ℕ → FoundFile → Bool) (medium : D → Medium)
    (takes : Taking O) (job : RunJob) (lines found : Option (List ℕ))
    (failed broken : Bool) (outside : Outside) (disk disk' : D) (outlet outlet' : O)
    (err between err' : PrinterState) (status : Status) → outside ≡ job.outside → found ≡ lines
    → broken ≡ failed → between ≡ err
    → ServesToEnd medium takes job.watched.disk.now
    (run_start (disk_job (non_zero_u64_get job.pace.fuel) (non_zero_u64_get job.pace.every)
    (non_zero_u64_get job.pace.batch) found outside broken) disk outlet between) disk'
    (outputs outlet' err') status
    → RunsJob has_found medium takes job (run_start (job_given job lines failed) disk outlet err)
    disk' (outputs outlet' err') status
job_served {D} {O} has_found medium takes job lines found failed broken outside disk disk' outlet
    outlet' err between err' status of_job of_lines of_failed quiet serves =
    let start : Outside → Option (List ℕ) → Bool → PrinterState → RunStart D O =
    λ o l f e. run_start (disk_job (non_zero_u64_get job.pace.fuel)
    (non_zero_u64_get job.pace.every) (non_zero_u64_get job.pace.batch) l o f) disk outlet e in
    let does : RunStart D O → Type 0 =
    λ before. ServesToEnd medium takes job.watched.disk.now before disk' (outputs outlet' err')
    status in
    inr (subst (λ e. does (start job.outside lines failed e)) quiet
    (subst (λ f. does (start job.outside lines f between)) of_failed
    (subst (λ l. does (start job.outside l broken between)) of_lines
    (subst (λ o. does (start o found broken between)) of_job serves))))

module _ {F : Type 0} {files : KnownFiles F} {said : RunMeaning} {job : RunJob}
    {seeds : KnownSeedFiles} (is : IsJobOf seeds said job)
    (may : MayRun files said) where
  -- leave for the files of a job's words
  pub status_may : IfSome (named_status job) (MayWatch files)
  status_may = subst (λ path. IfSome path (MayWatch files)) (sym is.status) may.status

  pub metrics_may : IfSome (named_metrics job) (MayWatch files)
  metrics_may = subst (λ path. IfSome path (MayWatch files)) (sym is.metrics) may.metrics

module _ {F O : Type 0} (known : KnownSystem F) (takes : Taking O)
    (said : RunMeaning) (lines : Option (List ℕ)) (failed : Bool) where
  -- a run before which nothing was said
  pub runs_quietly : (outlet outlet' : O) (err between err' : PrinterState) (status : Status)
      → between ≡ err
      → RunsFile known takes said (run_input lines failed) (outputs outlet between)
      (outputs outlet' err') status
      → RunsFile known takes said (run_input lines failed) (outputs outlet err)
      (outputs outlet' err') status
  runs_quietly outlet outlet' err between err' status quiet runs =
      subst (λ old. RunsFile known takes said (run_input lines failed)
      (outputs outlet old) (outputs outlet' err') status) quiet runs

  -- a run without a seed
  pub runs_seedless : (outlet : O) (err err' : PrinterState) (status : Status)
      → SaysSeedless known.seeds said.seed_file said.seed err status err'
      → RunsFile known takes said (run_input lines failed) (outputs outlet err)
      (outputs outlet err') status
  runs_seedless outlet err err' status says = seedless says refl

  -- a run of a disk that was opened, of whose opening nothing was said
  pub runs_opened : (disk disk' : FileDisk F) (outlet outlet' : O)
      (err between err' : PrinterState) (status : Status) (job : RunJob)
      → IsJobOf known.seeds said job
      → IsOpenedFor known.handles known.files said.rewrites said.disk disk
      → IsTrue (known.files.closed disk') → between ≡ read_along said.is_verbose err
      → RunsJob known.has_found file_medium takes job
      (run_start (job_given job lines failed) disk outlet between) disk' (outputs outlet' err')
      status
      → RunsFile known takes said (run_input lines failed) (outputs outlet err)
      (outputs outlet' err') status
  runs_opened disk disk' outlet outlet' err between err' status job is for closed quiet runs =
      opened job is disk disk' for closed (subst (λ old. RunsJob known.has_found file_medium takes
      job (run_start (job_given job lines failed) disk outlet old) disk' (outputs outlet' err')
      status) quiet runs)

module _ {F : Type 0} (handles : KnownHandles F) (files : KnownFiles F) (path : List ℕ)
    (disk disk' : FileDisk F) where
  -- an upgrade of a disk that was opened there, of whose opening nothing was said
  pub upgrades_opened : (lines lines' : CountedPrinter)
      (out' err opening between err' : PrinterState) (status : Status)
      (upgraded : Result Upgraded Status) → IsOpenedAt handles files path disk
      → IsTrue (files.closed disk') → opening ≡ err → lines.told ≡ 0
      → UpgradesOnDisk file_medium counting upgraded disk disk' (outputs lines opening)
      (outputs lines' between)
      → HeedsRefusal counting lines lines' between (status_so_far upgraded)
      → SaysUpgraded upgraded lines'.told (printers lines'.printer between) (printers out' err')
      status
      → UpgradesFile handles files path (printers lines.printer err) (printers out' err') status
  upgrades_opened lines lines' out' err opening between err' status upgraded at closed quiet none
      does heeds says =
      let from : ℕ → PrinterState → Type 0 =
      λ told old. UpgradesOnDisk file_medium counting upgraded disk disk'
      (outputs (counted_printer lines.printer told) old) (outputs lines' between) in
      inl (record {
        disk = disk;
        disk' = disk';
        at = at;
        closed = closed;
        upgraded = upgraded;
        between = printers lines'.printer between;
        told = lines'.told;
        upgrades = subst (λ told. from told err) none (subst (from lines.told) quiet does);
        heeds = subst (λ told. HeedsRefusal counting (counted_printer lines.printer told) lines'
            between (status_so_far upgraded)) none heeds;
        says = says;
      })
