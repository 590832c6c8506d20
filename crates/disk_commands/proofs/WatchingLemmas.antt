-- What a watcher was told, where a run ends well. Where it doesn't the status is another.
use Rattle.std.proofs.Common.{◌≢◌, inl, inr, ℕ, Bool, true, false, List, sym, ◌∙◌}
use Rattle.std.specs.Prelude.{IsTrue, Option, if◌then◌else◌}
use Rattle.sector_disk.specs.declared.fault.DiskFault.{DiskFault}
use Rattle.sector_disk.specs.declared.fault.DiskFault.TheVariants as disk
use Rattle.record_replay.specs.declared.fault.ReplayFault.TheVariants as replay
use Rattle.record_replay.specs.declared.slices.fault.SliceFault.TheVariants as slice
use Rattle.record_replay.specs.declared.slices.now.Now.{Now}
use Rattle.record_replay.specs.declared.slices.now.Now.TheVariants.{Spent}
use Rattle.worker.specs.declared.fault.WorkFault.{WorkFault}
use Rattle.worker.specs.declared.fault.WorkFault.TheVariants as work
use Rattle.worker.specs.declared.recover_fault.RecoverFault.{RecoverFault}
use Rattle.worker.specs.declared.recover_fault.RecoverFault.TheVariants as recover
use Rattle.worker.specs.rules.DurableValues.{DurableValue}
use Rattle.worker.specs.rules.RecoverFaults.{wants_memory}
use Rattle.command_words.specs.declared.lines.fault.LineFault.{LineFault}
use Rattle.command_words.specs.declared.lines.fault.LineFault.TheVariants as line
use Rattle.command_words.specs.rules.Printers.{PrinterState, IsSaid}
use Rattle.command_words.specs.rules.Statuses.{status_of_line}
use Rattle.command_words.specs.declared.status.Status.{Status}
use Rattle.command_words.specs.declared.status.Status.TheVariants as exit
use Rattle.disk_commands.specs.declared.on_disk.fault.OnDiskFault.{OnDiskFault}
use Rattle.disk_commands.specs.declared.on_disk.fault.OnDiskFault.TheVariants as is_told
use Rattle.disk_commands.specs.rules.DiskStatuses.{status_on_disk, status_of_disk}
use Rattle.disk_commands.specs.rules.DiskStatuses.{status_of_call, status_of_recovery}
use Rattle.disk_commands.specs.rules.LastWords.{SaysOver, ended_by}
use Rattle.disk_commands.specs.rules.Watchings.{WatchesEnd}

undone_of_call : (fault : WorkFault) → status_of_call fault ≢ exit.Done
undone_of_call (work.Work slice.Source) = λ e. cc
undone_of_call (work.Work slice.Outlet) = λ e. cc
undone_of_call (work.Work slice.Memory) = λ e. cc
undone_of_call (work.Work slice.Failed) = λ e. cc
undone_of_call (work.Work (slice.Refused why)) = λ e. cc
undone_of_call (work.Disk fault) = λ e. cc
undone_of_call (work.Store fault) = λ e. cc
undone_of_call (work.Upgrade fault) = λ e. cc

undone_of_disk : (fault : DiskFault) → status_of_disk fault ≢ exit.Done
undone_of_disk disk.Range = λ e. cc
undone_of_disk disk.Io = λ e. cc
undone_of_disk disk.Cut = λ e. cc
undone_of_disk disk.Memory = λ e. cc

undone_of_line : (fault : LineFault) → status_of_line fault ≢ exit.Done
undone_of_line line.Read = λ e. cc
undone_of_line line.Clock = λ e. cc
undone_of_line line.Words = λ e. cc
undone_of_line line.Memory = λ e. cc
undone_of_line (line.Number given wanted) = λ e. cc
undone_of_line line.Form = λ e. cc

undone_by_want : (want : Bool)
    → ◌≢◌ {A = Status} (if want then exit.OutOfMemory else exit.Refused) exit.Done
undone_by_want true = λ e. cc
undone_by_want false = λ e. cc

undone_of_recovery : (fault : RecoverFault) → status_of_recovery fault ≢ exit.Done
undone_of_recovery (recover.Worker fault) = undone_of_call fault
undone_of_recovery (recover.Replay replay.Diverged) = λ e. cc
undone_of_recovery (recover.Replay replay.Memory) = λ e. cc
undone_of_recovery (recover.Replay replay.Outlet) = λ e. cc
undone_of_recovery (recover.Layout why) = undone_by_want (wants_memory (recover.Layout why))
undone_of_recovery (recover.Module why) = undone_by_want (wants_memory (recover.Module why))
undone_of_recovery (recover.Snapshot why) = undone_by_want (wants_memory (recover.Snapshot why))
undone_of_recovery (recover.ProcessImage why) =
    undone_by_want (wants_memory (recover.ProcessImage why))
undone_of_recovery (recover.Journal why) = undone_by_want (wants_memory (recover.Journal why))

pub undone_on_disk : (told : OnDiskFault) → status_on_disk told ≢ exit.Done
undone_on_disk (is_told.Disk fault) = undone_of_disk fault
undone_on_disk (is_told.Recovery fault) = undone_of_recovery fault
undone_on_disk (is_told.Call fault) = undone_of_call fault
undone_on_disk (is_told.Line fault) = undone_of_line fault

module _ (is_told_of : DurableValue → Now → Bool) (status : Status) (err' : PrinterState) where
  -- a fault was told
  pub watches_fault : (told : OnDiskFault) (err : PrinterState)
      → IsSaid (status_on_disk told) err status err' → WatchesEnd is_told_of err' status
  watches_fault told err (inl said) = λ done.
      absurd (undone_on_disk told (sym said.0 ∙ done))
  watches_fault told err (inr unsaid) = λ done.
      let unwritten = unsaid.0 in absurd cc

  -- the worker is over, and its last words were said
  pub watches_end : (w : DurableValue) (said : Now) (between : PrinterState) (heard : Bool)
      (taken : ℕ) (bytes : Option (List ℕ)) → said ≢ Spent → IsTrue (is_told_of w said)
      → SaysOver bytes heard (ended_by said) taken between status err'
      → WatchesEnd is_told_of err' status
  watches_end w said between heard taken bytes over told says =
      λ done. (w, said, between, heard, taken, bytes, over, told, says)
