-- What a recovery says where one of its steps can't be done (this project's own). Each fault is
-- that of the layer that has found it.
use Rattle.std.specs.Prelude.{Bool, true, false, IsTrue}
use Rattle.disk_layout.specs.declared.fault.LayoutFault.TheVariants as layout
use Rattle.journal.specs.declared.fault.JournalFault.TheVariants as journal
use Rattle.snapshot.specs.declared.fault.SnapshotFault.TheVariants as snapshot
use Rattle.state_image.specs.declared.restoring.fault.RestoreFault.TheVariants as restore
use Rattle.machine.specs.rules.Acceptance.{is_want}
use Rattle.record_replay.specs.declared.fault.ReplayFault.TheVariants as replay
use Rattle.record_replay.specs.declared.slices.fault.SliceFault.TheVariants as slice
use Rattle.worker_store.specs.declared.read_fault.ReadFault.{ReadFault}
use Rattle.worker_store.specs.declared.read_fault.ReadFault.TheVariants as read
use Rattle.worker_store.specs.rules.ReadFaults.{IsOwnOfLayout, IsOwnOfSnapshot, IsOwnOfJournal}
use Rattle.worker.specs.declared.fault.WorkFault.TheVariants as work
use Rattle.worker.specs.declared.recover_fault.RecoverFault.{RecoverFault}
use Rattle.worker.specs.declared.recover_fault.RecoverFault.TheVariants as recover

-- a fault of what is read of the disk
abbrev pub fault_of_read : ReadFault → RecoverFault
fault_of_read (read.Disk fault) = recover.Worker (work.Disk fault)
fault_of_read (read.Layout fault) = recover.Layout fault
fault_of_read (read.Snapshot fault) = recover.Snapshot fault
fault_of_read (read.Journal fault) = recover.Journal fault

-- memory was refused to some layer
abbrev pub wants_memory : RecoverFault → Bool
wants_memory (recover.Worker (work.Work slice.Memory)) = true
wants_memory (recover.Layout layout.Memory) = true
wants_memory (recover.Module fault) = is_want fault
wants_memory (recover.Snapshot snapshot.Memory) = true
wants_memory (recover.ProcessImage restore.Memory) = true
wants_memory (recover.Journal journal.Memory) = true
wants_memory (recover.Replay replay.Memory) = true
wants_memory other = false

-- A layer wants memory before any line is told: Y5, one of B4, V5 and L7, S4, I2 or J4.
abbrev pub LayerWantsMemory : RecoverFault → Type 0
LayerWantsMemory (recover.Layout layout.Memory) = Unit {0}
LayerWantsMemory (recover.Module fault) = IsTrue (is_want fault)
LayerWantsMemory (recover.Snapshot snapshot.Memory) = Unit {0}
LayerWantsMemory (recover.ProcessImage restore.Memory) = Unit {0}
LayerWantsMemory (recover.Journal journal.Memory) = Unit {0}
LayerWantsMemory other = ⊥

-- A layer says it itself: no fault of the disk is told as its own, and none has failed before.
abbrev pub IsOfItsLayer : RecoverFault → Type 0
IsOfItsLayer (recover.Worker (work.Work why)) = ⊥
IsOfItsLayer (recover.Layout fault) = IsOwnOfLayout fault
IsOfItsLayer (recover.Snapshot fault) = IsOwnOfSnapshot fault
IsOfItsLayer (recover.Journal fault) = IsOwnOfJournal fault
IsOfItsLayer other = Unit {0}
