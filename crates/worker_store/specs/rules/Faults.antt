-- Faults of the crates below, as those of a store (this project's own).
use Rattle.disk_layout.specs.declared.fault.LayoutFault.{LayoutFault}
use Rattle.disk_layout.specs.declared.fault.LayoutFault.TheVariants as layout
use Rattle.journal.specs.declared.fault.JournalFault.{JournalFault}
use Rattle.journal.specs.declared.fault.JournalFault.TheVariants as journal
use Rattle.snapshot.specs.declared.fault.SnapshotFault.{SnapshotFault}
use Rattle.snapshot.specs.declared.fault.SnapshotFault.TheVariants as snapshot
use Rattle.worker_store.specs.declared.fault.StoreFault.{StoreFault}
use Rattle.worker_store.specs.declared.fault.StoreFault.TheVariants.{Full, TooLong, TooBig, Damaged}
use Rattle.worker_store.specs.declared.fault.StoreFault.TheVariants.{Layout, Disk, Memory, Failed}

-- a fault of a journal
abbrev pub fault_of_journal : JournalFault → StoreFault
fault_of_journal journal.Full = Full
fault_of_journal journal.TooLong = TooLong
fault_of_journal (journal.Disk fault) = Disk fault
fault_of_journal journal.Memory = Memory
fault_of_journal journal.Failed = Failed

-- a fault of a snapshot
abbrev pub fault_of_snapshot : SnapshotFault → StoreFault
fault_of_snapshot snapshot.TooBig = TooBig
fault_of_snapshot snapshot.Damaged = Damaged
fault_of_snapshot (snapshot.Disk fault) = Disk fault
fault_of_snapshot snapshot.Memory = Memory
fault_of_snapshot snapshot.Failed = Failed

-- a fault of a layout
abbrev pub fault_of_layout : LayoutFault → StoreFault
fault_of_layout layout.NotAWorker = Layout layout.NotAWorker
fault_of_layout layout.Version = Layout layout.Version
fault_of_layout layout.TooSmall = Layout layout.TooSmall
fault_of_layout (layout.Damaged why) = Layout (layout.Damaged why)
fault_of_layout layout.Memory = Memory
fault_of_layout (layout.Disk fault) = Disk fault
