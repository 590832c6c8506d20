-- When the status of a run or of an upgrade is that of a failed write.
use Rattle.std.proofs.Common.{◌≡◌, ◌≢◌, ◌⊎◌, inl, inr, Bool, true, false, List, [], ◌∷◌}
use Rattle.std.proofs.Common.{Ok, Err, refl, sym, ap, ◌∙◌, subst}
use Rattle.std.specs.Prelude.{Option, Result, if◌then◌else◌}
use Rattle.std.specs.List.{AllByRecursion}
use Rattle.sector_disk.specs.declared.fault.DiskFault.TheVariants as disk
use Rattle.sector_disk.specs.rules.Medium.{Medium}
use Rattle.record_replay.specs.declared.fault.ReplayFault.TheVariants as replay
use Rattle.record_replay.specs.rules.Calls.{Taking, Begun, Releases}
use Rattle.record_replay.specs.declared.slices.fault.SliceFault.TheVariants as slice
use Rattle.worker.specs.declared.fault.WorkFault.{WorkFault}
use Rattle.worker.specs.declared.fault.WorkFault.TheVariants as work
use Rattle.worker.specs.declared.recover_fault.RecoverFault.{RecoverFault}
use Rattle.worker.specs.declared.recover_fault.RecoverFault.TheVariants as recover
use Rattle.worker.specs.rules.Outlets.{WasTaken, TakesEach, HeedsOutlet, IsOutletFault}
use Rattle.worker.specs.rules.RecoverFaults.{wants_memory}
use Rattle.worker.proofs.OutletLemmas.{each_taken}
use Rattle.command_words.specs.declared.lines.fault.LineFault.{LineFault}
use Rattle.command_words.specs.declared.lines.fault.LineFault.TheVariants as line
use Rattle.command_words.specs.rules.Printers.{PrinterState, IsPrinted, StopsPrinting, IsSaid}
use Rattle.command_words.specs.rules.Prints.{printing}
use Rattle.command_words.specs.rules.Statuses.{status_of_line}
use Rattle.command_words.specs.rules.Texts.{printed}
use Rattle.command_words.specs.declared.status.Status.{Status}
use Rattle.command_words.specs.declared.status.Status.TheVariants as exit
use Rattle.disk_commands.specs.declared.on_disk.fault.OnDiskFault.{OnDiskFault}
use Rattle.disk_commands.specs.declared.on_disk.upgrading.Upgraded.{Upgraded}
use Rattle.disk_commands.specs.declared.on_disk.upgrading.Upgraded.TheVariants as upgraded
use Rattle.disk_commands.specs.rules.DiskStatuses.{IsReportedOnDisk, opening_fault, status_on_disk}
use Rattle.disk_commands.specs.rules.DiskStatuses.{status_of_call}
use Rattle.disk_commands.specs.rules.LastWords.{ended_by}
use Rattle.disk_commands.specs.laws.Released.{UnwrittenIsAFailedWrite}
use Rattle.disk_commands.specs.rules.Refusals.{HeedsRefusal}
use Rattle.disk_commands.specs.rules.ServedOnDisk.{RunStart, RunEnd, ServesOnDisk, over, broken}
use Rattle.disk_commands.specs.rules.ServedOnDisk.{unopened as is_unopened, outputs}
use Rattle.disk_commands.specs.rules.Upgradings.{UpgradesOnDisk, status_so_far}
use Rattle.disk_commands.proofs.TrapFrameLemmas.{over_is_said}

-- This is so, and the status is that of a failed write; or it isn't, and the status is another.
abbrev IsUnwritten : Type 0 → Status → Type 0
IsUnwritten Failed status = (Failed × (status ≡ exit.Unwritten))
    ⊎ ((Failed → ⊥) × (status ≢ exit.Unwritten))

-- a call's fault is told so just where it is the outlet's
unwritten_of_call : (why : WorkFault)
    → IsUnwritten (IsOutletFault (recover.Worker why)) (status_of_call why)
unwritten_of_call (work.Work slice.Outlet) = inl (tt, refl)
unwritten_of_call (work.Work slice.Source) = inr ((λ told. told), λ e. cc)
unwritten_of_call (work.Work slice.Memory) = inr ((λ told. told), λ e. cc)
unwritten_of_call (work.Work slice.Failed) = inr ((λ told. told), λ e. cc)
unwritten_of_call (work.Work (slice.Refused why)) = inr ((λ told. told), λ e. cc)
unwritten_of_call (work.Disk why) = inr ((λ told. told), λ e. cc)
unwritten_of_call (work.Store why) = inr ((λ told. told), λ e. cc)
unwritten_of_call (work.Upgrade why) = inr ((λ told. told), λ e. cc)

-- out of memory and a refusal aren't
not_by_want : (want : Bool)
    → ◌≢◌ {A = Status} (if want then exit.OutOfMemory else exit.Refused) exit.Unwritten
not_by_want true = λ e. cc
not_by_want false = λ e. cc

-- so is a recovery's
unwritten_of_opening : (why : RecoverFault)
    → IsUnwritten (IsOutletFault why) (status_on_disk (opening_fault why))
unwritten_of_opening (recover.Replay replay.Diverged) = inr ((λ told. told), λ e. cc)
unwritten_of_opening (recover.Replay replay.Memory) = inr ((λ told. told), λ e. cc)
unwritten_of_opening (recover.Replay replay.Outlet) = inl (tt, refl)
unwritten_of_opening (recover.Layout why) =
    inr ((λ told. told), not_by_want (wants_memory (recover.Layout why)))
unwritten_of_opening (recover.Module why) =
    inr ((λ told. told), not_by_want (wants_memory (recover.Module why)))
unwritten_of_opening (recover.Snapshot why) =
    inr ((λ told. told), not_by_want (wants_memory (recover.Snapshot why)))
unwritten_of_opening (recover.ProcessImage why) =
    inr ((λ told. told), not_by_want (wants_memory (recover.ProcessImage why)))
unwritten_of_opening (recover.Journal why) =
    inr ((λ told. told), not_by_want (wants_memory (recover.Journal why)))
unwritten_of_opening (recover.Worker (work.Disk disk.Memory)) =
    inr ((λ told. told), λ e. cc)
unwritten_of_opening (recover.Worker (work.Disk disk.Range)) =
    inr ((λ told. told), λ e. cc)
unwritten_of_opening (recover.Worker (work.Disk disk.Io)) =
    inr ((λ told. told), λ e. cc)
unwritten_of_opening (recover.Worker (work.Disk disk.Cut)) =
    inr ((λ told. told), λ e. cc)
unwritten_of_opening (recover.Worker (work.Work slice.Outlet)) = inl (tt, refl)
unwritten_of_opening (recover.Worker (work.Work slice.Source)) =
    unwritten_of_call (work.Work slice.Source)
unwritten_of_opening (recover.Worker (work.Work slice.Memory)) =
    unwritten_of_call (work.Work slice.Memory)
unwritten_of_opening (recover.Worker (work.Work slice.Failed)) =
    unwritten_of_call (work.Work slice.Failed)
unwritten_of_opening (recover.Worker (work.Work (slice.Refused why))) =
    unwritten_of_call (work.Work (slice.Refused why))
unwritten_of_opening (recover.Worker (work.Store why)) = unwritten_of_call (work.Store why)
unwritten_of_opening (recover.Worker (work.Upgrade why)) = unwritten_of_call (work.Upgrade why)

-- no fault of a request line is
line_is_other : (why : LineFault) → status_of_line why ≢ exit.Unwritten
line_is_other line.Read = λ e. cc
line_is_other line.Clock = λ e. cc
line_is_other line.Words = λ e. cc
line_is_other line.Memory = λ e. cc
line_is_other (line.Number given wanted) = λ e. cc
line_is_other line.Form = λ e. cc

unwritten_as_told : (why : WorkFault) (found : Option LineFault) (told : OnDiskFault)
    → IsReportedOnDisk why found told
    → IsUnwritten (IsOutletFault (recover.Worker why)) (status_on_disk told)
unwritten_as_told why found told (inl e) =
    subst (λ t. IsUnwritten (IsOutletFault (recover.Worker why)) (status_on_disk t)) (sym e.0)
    (unwritten_of_call why)
unwritten_as_told why found told (inr e) = inr (
  λ failed. subst (λ w. IsOutletFault (recover.Worker w)) e.1 failed,
  subst (λ t. status_on_disk t ≢ exit.Unwritten) (sym e.3) (line_is_other e.0),
)

module _ {O : Type 0} (takes : Taking O) (o o' : O) (Failed : Type 0) (told : Status)
    (between : PrinterState) (status : Status) (err' : PrinterState) where
  refusal_told : IsUnwritten Failed told → HeedsOutlet takes Failed o o'
      → IsSaid told between status err' → HeedsRefusal takes o o' err' status
  refusal_told (inl unwritten) (inl each) said = absurd (each.1 unwritten.0)
  refusal_told (inr other) (inl each) (inl said) =
      inl (each.0, λ e. absurd (other.1 (sym said.0 ∙ e)))
  refusal_told (inr other) (inl each) (inr unsaid) = inl (each.0, λ e. unsaid.1)
  refusal_told (inl unwritten) (inr refused) (inl said) = inr (refused.0, said.0 ∙ unwritten.1)
  refusal_told (inl unwritten) (inr refused) (inr unsaid) = inr (refused.0, unsaid.0)
  refusal_told (inr other) (inr refused) said = absurd (other.0 refused.1)

module _ {D O : Type 0} (medium : D → Medium) (takes : Taking O) (before : RunStart D O)
    (after : RunEnd D O) (status : Status) where
  pub heeds_refusal : ServesOnDisk medium takes before after status
      → HeedsRefusal takes before.outlet after.outlet after.err status
  heeds_refusal (is_unopened why run steady said) =
      refusal_told takes before.outlet after.outlet (IsOutletFault why)
      (status_on_disk (opening_fault why)) before.err status after.err (unwritten_of_opening why)
      run.heeded said
  heeds_refusal (over now source' between last done reads lives outcome steady tells bytes
      of_disk said) =
      refusal_told takes before.outlet after.outlet ⊥ exit.Done between status after.err
      (inr ((λ none. none), λ e. cc)) lives.heeded
      (over_is_said bytes before.err.on_terminal (ended_by now) source'.taken between status
      after.err said)
  heeds_refusal (broken why told source' between lives breaks steady is tells said) =
      refusal_told takes before.outlet after.outlet (IsOutletFault (recover.Worker why))
      (status_on_disk told) between status after.err (unwritten_as_told why source'.fault told is)
      lives.heeded said

-- so is an upgrade
pub heeds_in_upgrade : {D O : Type 0} (medium : D → Medium) (takes : Taking O) (found last : D)
    (o o' : O) (err err' : PrinterState) (result : Result Upgraded Status)
    → UpgradesOnDisk medium takes result found last (outputs o err) (outputs o' err')
    → HeedsRefusal takes o o' err' (status_so_far result)
heeds_in_upgrade medium takes found last o o' err err' (Ok upgraded.Now) does =
    inl (each_taken takes ⊥ o o' (λ told. told) does.0.heeded, λ e. absurd cc)
heeds_in_upgrade medium takes found last o o' err err' (Ok upgraded.Before) does =
    inl (does.0.taken, λ e. absurd cc)
heeds_in_upgrade medium takes found last o o' err err' (Err status) (inl does) =
    refusal_told takes o o' (IsOutletFault does.0) (status_on_disk (opening_fault does.0)) err
    status err' (unwritten_of_opening does.0) does.1.heeded does.2
heeds_in_upgrade medium takes found last o o' err err' (Err status) (inr does) =
    refusal_told takes o o' (IsOutletFault (recover.Worker does.0)) (status_of_call does.0) does.1
    status err' (unwritten_of_call does.0) does.2.heeded does.5

-- ---- of an outlet that prints

-- where each line was taken, no write has failed
unfailed_yet : (releases : List Begun) (old new : PrinterState) → Releases printing old releases new
    → AllByRecursion WasTaken releases → new.failed ≡ old.failed
unfailed_yet [] old new led taken = ap (λ (z : PrinterState). z.failed) led
unfailed_yet (begun ∷ releases) old new led taken =
    let printed_so : IsPrinted old led.0 (printed begun.number begun.line) =
    subst (λ r. printing old begun.number begun.line r led.0) taken.0 led.1 in
    unfailed_yet releases led.0 new led.2 taken.1 ∙ printed_so.1

steady_each : (out out' : PrinterState) → TakesEach printing out out'
    → out'.failed ≡ out.failed
steady_each out out' each = unfailed_yet each.releases out out' each.led each.taken

pub unwritten_is_a_failed_write : UnwrittenIsAFailedWrite
unwritten_is_a_failed_write out out' err' status unfailed (inl each) =
    let steady = steady_each out out' each.0 in (
      (λ failed. let both : false ≡ true = sym unfailed ∙ sym steady ∙ failed in absurd (cc)),
      λ unwritten. inr (each.1 unwritten),
    )
unwritten_is_a_failed_write out out' err' status unfailed (inr refused) =
    let last = refused.0.last in
    let stopped : StopsPrinting refused.0.between out' (printed last.number last.line) =
    subst (λ r. printing refused.0.between last.number last.line r out') refused.0.said
    refused.0.released in
    ((λ failed. refused.1), λ unwritten. inl stopped.1)
