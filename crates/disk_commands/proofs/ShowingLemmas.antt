-- What is printed of a disk, by its survey.
use Rattle.std.proofs.Common.{◌≡◌, ◌⊎◌, inl, inr, ◌<◌, refl, sym, ap, ◌∙◌, subst}
use Rattle.std.specs.Prelude.{Result, Ok, Err, if◌then◌else◌}
use Rattle.sector_disk.specs.declared.fault.DiskFault.{DiskFault}
use Rattle.sector_disk.specs.declared.fault.DiskFault.TheVariants as disk
use Rattle.sector_disk.specs.rules.DiskImage.{DiskImage}
use Rattle.sector_disk.specs.rules.Medium.{Medium}
use Rattle.worker.specs.declared.fault.WorkFault.TheVariants as work
use Rattle.worker.specs.declared.recover_fault.RecoverFault.{RecoverFault}
use Rattle.worker.specs.declared.recover_fault.RecoverFault.TheVariants as recover
use Rattle.worker.specs.declared.surveyed.Survey.{Survey}
use Rattle.worker.specs.rules.RecoverFaults.{LayerWantsMemory, wants_memory}
use Rattle.worker.specs.rules.Recoveries.{SaysNothing}
use Rattle.worker.proofs.WantLemmas.{wanted_early}
use Rattle.worker.specs.rules.Surveys.{Surveys, EachSurvey, TellsSurvey, survey_of}
use Rattle.command_words.specs.rules.Printers.{PrinterState, IsSaid, printers}
use Rattle.command_words.specs.declared.status.Status.{Status}
use Rattle.command_words.specs.declared.status.Status.TheVariants as exit
use Rattle.disk_commands.specs.declared.on_disk.fault.OnDiskFault.{OnDiskFault}
use Rattle.disk_commands.specs.rules.DiskStatuses.{opening_fault, status_on_disk}
use Rattle.disk_commands.specs.rules.Showings.{SaysSurvey, SaysResult, ShowsSurvey, ShowsDisk}

-- ---- statuses

-- a layer that wants memory is told by that
status_of_want : (why : RecoverFault) → LayerWantsMemory why
    → ◌≡◌ {A = Status} (if wants_memory why then exit.OutOfMemory else exit.Refused)
    exit.OutOfMemory
status_of_want why wants = rw (wanted_early why wants) refl

-- what says nothing of the disk is told as a disk that has failed, or as want of memory
status_of_nothing : (old new : Medium) (why : RecoverFault) → SaysNothing why
    → ((fault : DiskFault) → why ≡ recover.Worker (work.Disk fault) → old.faults < new.faults)
    → ((status_on_disk (opening_fault why) ≡ exit.IoError) × (old.faults < new.faults))
    ⊎ (status_on_disk (opening_fault why) ≡ exit.OutOfMemory)
status_of_nothing old new (recover.Worker (work.Disk disk.Memory)) says failed = inr refl
status_of_nothing old new (recover.Worker (work.Disk disk.Range)) says failed =
    inl (refl, failed disk.Range refl)
status_of_nothing old new (recover.Worker (work.Disk disk.Io)) says failed =
    inl (refl, failed disk.Io refl)
status_of_nothing old new (recover.Worker (work.Disk disk.Cut)) says failed =
    inl (refl, failed disk.Cut refl)
status_of_nothing old new (recover.Worker (work.Work why)) says failed = absurd says
status_of_nothing old new (recover.Worker (work.Store why)) says failed = absurd says
status_of_nothing old new (recover.Worker (work.Upgrade why)) says failed = absurd says
status_of_nothing old new (recover.Replay why) says failed = absurd says
status_of_nothing old new (recover.Layout why) says failed =
    inr (status_of_want (recover.Layout why) says)
status_of_nothing old new (recover.Module why) says failed =
    inr (status_of_want (recover.Module why) says)
status_of_nothing old new (recover.Snapshot why) says failed =
    inr (status_of_want (recover.Snapshot why) says)
status_of_nothing old new (recover.ProcessImage why) says failed =
    inr (status_of_want (recover.ProcessImage why) says)
status_of_nothing old new (recover.Journal why) says failed =
    inr (status_of_want (recover.Journal why) says)

-- ---- what is shown of a worker

-- Whatever the disk shows, the survey tells it. A fault of the disk comes of one that has failed.
module _ (old new : Medium) where
  tells_each : (result : Result Survey RecoverFault) → Surveys result old new → (image : DiskImage)
      → new.shows image → EachSurvey old.sectors image (TellsSurvey result)
  tells_each result (inl failed_sync) image shows m config kept n stands room =
      subst (λ (r : Result Survey RecoverFault). TellsSurvey r (survey_of stands))
      (sym failed_sync.is) tt
  tells_each result (inr just_synced) image shows m config kept n stands room =
      let from = just_synced.2 image shows in from.tells m config kept n stands room

  fails_so : (result : Result Survey RecoverFault) → Surveys result old new
      → (fault : DiskFault) → result ≡ Err (recover.Worker (work.Disk fault))
      → old.faults < new.faults
  fails_so result (inl failed_sync) fault is = failed_sync.faulted
  fails_so result (inr just_synced) fault is = just_synced.1 fault is

module _ (old new : Medium) (out out' err err' : PrinterState) (status : Status) where
  pub shows_survey : (survey : Survey) → Surveys (Ok survey) old new
      → SaysSurvey survey out status out' → err' ≡ err
      → ShowsDisk old new (printers out err) (printers out' err') status
  shows_survey survey surveys says stays =
      record { result = Ok survey; surveys = surveys; says = (says, stays) }

  -- of a fault the output knows nothing
  pub shows_fault : (why : RecoverFault) (told : OnDiskFault) → Surveys (Err why) old new
      → told ≡ opening_fault why → IsSaid (status_on_disk told) err status err' → out' ≡ out
      → ShowsDisk old new (printers out err) (printers out' err') status
  shows_fault why told surveys is said stays = record {
    result = Err why;
    surveys = surveys;
    says = (
      subst (λ (f : OnDiskFault). IsSaid (status_on_disk f) err status err') is said,
      stays,
    );
  }

  -- nothing but the status is told of what says nothing of the disk
  says_nothing : (survey : Survey) (told : Status)
      → ((told ≡ exit.IoError) × (old.faults < new.faults)) ⊎ (told ≡ exit.OutOfMemory)
      → IsSaid told err status err' → ShowsSurvey old new out out' err' status survey
  says_nothing survey told is (inr unsaid) = inr (inr (inr unsaid))
  says_nothing survey told (inl four) (inl said) = inr (inl (said.0 ∙ four.0, four.1))
  says_nothing survey told (inr five) (inl said) = inr (inr (inl (said.0 ∙ five)))

  says_as : (survey : Survey) (result : Result Survey RecoverFault)
      → TellsSurvey result survey
      → ((fault : DiskFault) → result ≡ Err (recover.Worker (work.Disk fault))
      → old.faults < new.faults)
      → SaysResult result (printers out err) (printers out' err') status
      → ShowsSurvey old new out out' err' status survey
  says_as survey (Ok told) is failed says =
      inl (subst (λ (s : Survey). SaysSurvey s out status out') is says.0)
  says_as survey (Err why) nothing failed says =
      says_nothing survey (status_on_disk (opening_fault why))
      (status_of_nothing old new why nothing
      (λ fault is. failed fault (ap (λ e. Err e) is))) says.0

  pub shows_each : ShowsDisk old new (printers out err) (printers out' err') status
      → (image : DiskImage)
      → new.shows image → EachSurvey old.sectors image (ShowsSurvey old new out out' err' status)
  shows_each shown image shows m config kept n stands room =
      says_as (survey_of stands) shown.result
      (tells_each old new shown.result shown.surveys image shows m config kept n stands room)
      (fails_so old new shown.result shown.surveys) shown.says
