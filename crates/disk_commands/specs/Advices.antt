-- What a second line says of a worker on its disk that isn't opened, or that fails.
use Rattle.std.specs.Prelude.{Option, Some, None, List, ℕ, codes, if◌then◌else◌}
use Rattle.sector_disk.specs.declared.fault.DiskFault.TheVariants as disk
use Rattle.disk_layout.specs.declared.fault.LayoutFault.TheVariants as layout
use Rattle.worker.specs.declared.fault.WorkFault.TheVariants as work
use Rattle.worker.specs.declared.recover_fault.RecoverFault.TheVariants as recover
use Rattle.worker.specs.declared.upgrade_fault.UpgradeFault.TheVariants.{JournalTooSmall}
use Rattle.worker.specs.rules.RecoverFaults.{wants_memory}
use Rattle.disk_commands.specs.declared.on_disk.fault.OnDiskFault.{OnDiskFault}
use Rattle.disk_commands.specs.declared.on_disk.fault.OnDiskFault.TheVariants as told

-- What it is, and what to do, where a line says so: of a disk that has failed before its worker was
-- open, of one without a worker or without a whole snapshot, and of a journal that is too small for
-- version 2.
abbrev pub advice : OnDiskFault → Option (List ℕ)
advice (told.Disk disk.Io) = Some (codes "the disk has failed: see to its device")
advice (told.Recovery (recover.Layout layout.NotAWorker)) =
    Some (codes "no worker is on the disk: if create or save was cut off, call that again")
advice (told.Recovery (recover.Snapshot why)) = if wants_memory (recover.Snapshot why) then None
    else Some (codes "the newest snapshot of the disk isn't whole: restore a backup")
advice (told.Call (work.Upgrade JournalTooSmall)) =
    Some (codes "its journal has fewer than 133 sectors: create --from it with --journal 133")
advice other = None
