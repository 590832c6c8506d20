-- Faults of the crates below, where a worker is read from its disk (this project's own). A fault of
-- the disk is told as that, and any other one as it is.
use Rattle.std.specs.Prelude.{◌<◌}
use Rattle.sector_disk.specs.rules.Medium.{Medium}
use Rattle.disk_layout.specs.declared.fault.LayoutFault.{LayoutFault}
use Rattle.disk_layout.specs.declared.fault.LayoutFault.TheVariants as layout
use Rattle.journal.specs.declared.fault.JournalFault.{JournalFault}
use Rattle.journal.specs.declared.fault.JournalFault.TheVariants as journal
use Rattle.snapshot.specs.declared.fault.SnapshotFault.{SnapshotFault}
use Rattle.snapshot.specs.declared.fault.SnapshotFault.TheVariants as snapshot
use Rattle.worker_store.specs.declared.read_fault.ReadFault.{ReadFault}
use Rattle.worker_store.specs.declared.read_fault.ReadFault.TheVariants.{Disk, Layout, Snapshot}
use Rattle.worker_store.specs.declared.read_fault.ReadFault.TheVariants.{Journal}

-- a fault of a layout
abbrev pub read_of_layout : LayoutFault → ReadFault
read_of_layout (layout.Disk fault) = Disk fault
read_of_layout other = Layout other

-- a fault of a snapshot
abbrev pub read_of_snapshot : SnapshotFault → ReadFault
read_of_snapshot (snapshot.Disk fault) = Disk fault
read_of_snapshot other = Snapshot other

-- a fault of a journal
abbrev pub read_of_journal : JournalFault → ReadFault
read_of_journal (journal.Disk fault) = Disk fault
read_of_journal other = Journal other

-- ---- what a layer says itself

-- it is no fault of the disk
abbrev pub IsOwnOfLayout : LayoutFault → Type 0
IsOwnOfLayout (layout.Disk fault) = ⊥
IsOwnOfLayout other = Unit {0}

-- it is no fault of the disk, and no call has failed before
abbrev pub IsOwnOfSnapshot : SnapshotFault → Type 0
IsOwnOfSnapshot (snapshot.Disk fault) = ⊥
IsOwnOfSnapshot snapshot.Failed = ⊥
IsOwnOfSnapshot other = Unit {0}

-- it is no fault of the disk, and no call has failed before
abbrev pub IsOwnOfJournal : JournalFault → Type 0
IsOwnOfJournal (journal.Disk fault) = ⊥
IsOwnOfJournal journal.Failed = ⊥
IsOwnOfJournal other = Unit {0}

-- When an error comes, whatever is on the disk. A fault of the disk is told as that, and only where
-- the disk has failed since. Any other one is what its layer says itself.
abbrev pub HasReadCause : Medium → Medium → ReadFault → Type 0
HasReadCause old new (Disk fault) = old.faults < new.faults
HasReadCause old new (Layout fault) = IsOwnOfLayout fault
HasReadCause old new (Snapshot fault) = IsOwnOfSnapshot fault
HasReadCause old new (Journal fault) = IsOwnOfJournal fault
