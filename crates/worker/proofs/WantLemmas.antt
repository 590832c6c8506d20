-- Which faults are out of memory.
use Rattle.std.proofs.Common.{◌≡◌, true, refl}
use Rattle.disk_layout.specs.declared.fault.LayoutFault.TheVariants as layout
use Rattle.journal.specs.declared.fault.JournalFault.TheVariants as journal
use Rattle.snapshot.specs.declared.fault.SnapshotFault.TheVariants as snapshot
use Rattle.state_image.specs.declared.restoring.fault.RestoreFault.TheVariants as restore
use Rattle.worker.specs.declared.recover_fault.RecoverFault.{RecoverFault}
use Rattle.worker.specs.declared.recover_fault.RecoverFault.TheVariants as recover
use Rattle.worker.specs.rules.RecoverFaults.{LayerWantsMemory, wants_memory}

-- a layer that wants memory before any line is told wants it
pub wanted_early : (why : RecoverFault) → LayerWantsMemory why → wants_memory why ≡ true
wanted_early (recover.Layout layout.Memory) wants = refl
wanted_early (recover.Module fault) wants = wants
wanted_early (recover.Snapshot snapshot.Memory) wants = refl
wanted_early (recover.ProcessImage restore.Memory) wants = refl
wanted_early (recover.Journal journal.Memory) wants = refl
wanted_early other wants = absurd wants
