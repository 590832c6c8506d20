-- What is told of a worker on its disk that isn't opened, or that fails, and the exit status that
-- says it (this project's own).
use Rattle.std.specs.Prelude.{◌≡◌, ◌⊎◌, Option, Some, None, if◌then◌else◌}
use Rattle.sector_disk.specs.declared.fault.DiskFault.{DiskFault}
use Rattle.sector_disk.specs.declared.fault.DiskFault.TheVariants as disk
use Rattle.record_replay.specs.declared.fault.ReplayFault.TheVariants as replay
use Rattle.record_replay.specs.declared.slices.fault.SliceFault.TheVariants as slice
use Rattle.worker.specs.declared.fault.WorkFault.{WorkFault}
use Rattle.worker.specs.declared.fault.WorkFault.TheVariants as work
use Rattle.worker.specs.declared.recover_fault.RecoverFault.{RecoverFault}
use Rattle.worker.specs.declared.recover_fault.RecoverFault.TheVariants as recover
use Rattle.worker.specs.rules.RecoverFaults.{wants_memory}
use Rattle.command_words.specs.declared.lines.fault.LineFault.{LineFault}
use Rattle.command_words.specs.rules.Statuses.{status_of_line}
use Rattle.command_words.specs.declared.status.Status.{Status}
use Rattle.command_words.specs.declared.status.Status.TheVariants as exit
use Rattle.disk_commands.specs.declared.on_disk.fault.OnDiskFault.{OnDiskFault}
use Rattle.disk_commands.specs.declared.on_disk.fault.OnDiskFault.TheVariants as told
use Rattle.record_replay.specs.declared.slices.fault.SliceFault.{SliceFault}

-- While it is opened, a fault of the disk is told as that, and any other one under the name of the
-- layer that has found it.
abbrev pub opening_fault : RecoverFault → OnDiskFault
opening_fault (recover.Worker (work.Disk fault)) = told.Disk fault
opening_fault other = told.Recovery other

-- a fault of a call is told as it is
abbrev pub call_fault : WorkFault → OnDiskFault
call_fault fault = told.Call fault

-- A fault of a call is told as it is; or, where it is the source's, as that of a line, where there
-- is one.
abbrev pub IsReportedOnDisk : WorkFault → Option LineFault → OnDiskFault → Type 0
IsReportedOnDisk why found is =
    ((is ≡ call_fault why) × (why ≡ work.Work slice.Source → found ≡ None))
    ⊎ ((line : LineFault) × (why ≡ work.Work slice.Source) × (found ≡ Some line)
    × (is ≡ told.Line line))

-- ---- exit statuses

-- a disk that failed before the worker was open
abbrev pub status_of_disk : DiskFault → Status
status_of_disk disk.Memory = exit.OutOfMemory
status_of_disk other = exit.IoError

-- the exit status of what a worker's call says
abbrev pub status_of_work : SliceFault → Status
status_of_work slice.Source = exit.IoError
status_of_work slice.Outlet = exit.Unwritten
status_of_work slice.Memory = exit.OutOfMemory
status_of_work slice.Failed = exit.IoError
status_of_work (slice.Refused why) = exit.Refused

-- What a call of a worker on its disk says. What a store refuses is neither out of memory nor a
-- fault of the disk. An upgrade may be refused before anything is asked of the disk.
abbrev pub status_of_call : WorkFault → Status
status_of_call (work.Work fault) = status_of_work fault
status_of_call (work.Disk fault) = exit.IoError
status_of_call (work.Store fault) = exit.Refused
status_of_call (work.Upgrade fault) = exit.Refused

-- A recovery that fails, but for a fault of the disk. What is on the disk is refused, or a layer
-- wants memory, or the outlet has refused a line that is told once more.
abbrev pub status_of_recovery : RecoverFault → Status
status_of_recovery (recover.Worker fault) = status_of_call fault
status_of_recovery (recover.Replay replay.Diverged) = exit.Refused
status_of_recovery (recover.Replay replay.Memory) = exit.OutOfMemory
status_of_recovery (recover.Replay replay.Outlet) = exit.Unwritten
status_of_recovery other = if wants_memory other then exit.OutOfMemory else exit.Refused

-- all that is told, where that is printed
abbrev pub status_on_disk : OnDiskFault → Status
status_on_disk (told.Disk fault) = status_of_disk fault
status_on_disk (told.Recovery fault) = status_of_recovery fault
status_on_disk (told.Call fault) = status_of_call fault
status_on_disk (told.Line fault) = status_of_line fault
