-- When an error comes of what is read of a disk.
use Rattle.std.proofs.Common.{◌≡◌, ◌⊎◌, inl, inr, ◌<◌, ◌≤◌, refl, sym, subst, arith}
use Rattle.std.specs.Prelude.{Result, Err, IsTrue}
use Rattle.sector_disk.specs.declared.fault.DiskFault.{DiskFault}
use Rattle.sector_disk.specs.rules.Medium.{Medium}
use Rattle.disk_layout.specs.rules.Stored.{OnlyReads}
use Rattle.disk_layout.specs.declared.fault.LayoutFault.{LayoutFault}
use Rattle.disk_layout.specs.declared.fault.LayoutFault.TheVariants as layout
use Rattle.journal.specs.declared.fault.JournalFault.{JournalFault}
use Rattle.journal.specs.declared.fault.JournalFault.TheVariants as journal
use Rattle.snapshot.specs.declared.fault.SnapshotFault.{SnapshotFault}
use Rattle.snapshot.specs.declared.fault.SnapshotFault.TheVariants as snapshot
use Rattle.snapshot.specs.declared.snapshots.Snapshots.{Snapshots}
use Rattle.snapshot.specs.rules.Snapshots.{is_failed, is_idle}
use Rattle.worker_store.specs.declared.read_fault.ReadFault.{ReadFault}
use Rattle.worker_store.specs.rules.ReadFaults.{read_of_layout, read_of_snapshot}
use Rattle.worker_store.specs.rules.ReadFaults.{read_of_journal, HasReadCause}
use Rattle.worker_store.proofs.ReadLemmas.{idle_works}

module _ (T : Type 0) (old new : Medium) where
  own_of_layout : (fault : LayoutFault)
      → ((d : DiskFault) → ◌≡◌ {A = Result T LayoutFault} (Err fault) (Err (layout.Disk d))
      → old.faults < new.faults)
      → HasReadCause old new (read_of_layout fault)
  own_of_layout (layout.Disk d) cause = cause d refl
  own_of_layout other cause = tt

  -- a fault of a layout
  pub layout_cause : (fault : LayoutFault) (e : ReadFault) → e ≡ read_of_layout fault
      → ((d : DiskFault) → ◌≡◌ {A = Result T LayoutFault} (Err fault) (Err (layout.Disk d))
      → old.faults < new.faults)
      → HasReadCause old new e
  layout_cause fault e is cause =
      subst (λ (f : ReadFault). HasReadCause old new f) (sym is) (own_of_layout fault cause)

  own_of_snapshot : (fault : SnapshotFault) → (fault ≡ snapshot.Failed → ⊥)
      → ((d : DiskFault) → ◌≡◌ {A = Result T SnapshotFault} (Err fault) (Err (snapshot.Disk d))
      → old.faults < new.faults)
      → HasReadCause old new (read_of_snapshot fault)
  own_of_snapshot (snapshot.Disk d) works cause = cause d refl
  own_of_snapshot snapshot.Failed works cause = works refl
  own_of_snapshot other works cause = tt

  -- one of a snapshot
  snapshot_cause : (fault : SnapshotFault) (e : ReadFault) → e ≡ read_of_snapshot fault
      → (fault ≡ snapshot.Failed → ⊥)
      → ((d : DiskFault) → ◌≡◌ {A = Result T SnapshotFault} (Err fault) (Err (snapshot.Disk d))
      → old.faults < new.faults)
      → HasReadCause old new e
  snapshot_cause fault e is works cause =
      subst (λ (f : ReadFault). HasReadCause old new f) (sym is)
      (own_of_snapshot fault works cause)

  -- the newest head was read before
  pub snapshot_later : (mid : Medium) → OnlyReads old mid → (fault : SnapshotFault)
      (e : ReadFault) → e ≡ read_of_snapshot fault → (fault ≡ snapshot.Failed → ⊥)
      → ((d : DiskFault) → ◌≡◌ {A = Result T SnapshotFault} (Err fault) (Err (snapshot.Disk d))
      → mid.faults < new.faults)
      → HasReadCause old new e
  snapshot_later mid reads fault e is works cause =
      let passes = reads.leaves.passes in
      let earlier : old.faults ≤ mid.faults = passes.faults in
      snapshot_cause fault e is works (λ d same. (let failed = cause d same in
      omega (arith, earlier, failed)))

  -- one of the newest head
  pub head_cause : (fault : SnapshotFault) (e : ReadFault) → e ≡ read_of_snapshot fault
      → (s : Snapshots) → IsTrue (is_idle s)
      → IsTrue (is_failed s)
      ⊎ ((d : DiskFault) × (◌≡◌ {A = Result T SnapshotFault} (Err fault) (Err (snapshot.Disk d)))
      × (old.faults < new.faults))
      → HasReadCause old new e
  head_cause fault e is s idle (inl failed) = absurd (idle_works s idle failed)
  head_cause fault e is s idle (inr by) =
      let same = by.1 in
      let named : fault ≡ snapshot.Disk by.0 = cc in
      let named_so : e ≡ read_of_snapshot (snapshot.Disk by.0) =
      subst (λ (f : SnapshotFault). e ≡ read_of_snapshot f) named is in
      subst (λ (f : ReadFault). HasReadCause old new f) (sym named_so) by.2

  own_of_journal : (fault : JournalFault)
      → (fault ≡ journal.Memory) ⊎ ((d : DiskFault) × (fault ≡ journal.Disk d))
      → ((d : DiskFault) → ◌≡◌ {A = Result T JournalFault} (Err fault) (Err (journal.Disk d))
      → old.faults < new.faults)
      → HasReadCause old new (read_of_journal fault)
  own_of_journal (journal.Disk d) which_fault cause = cause d refl
  own_of_journal journal.Memory which_fault cause = tt
  own_of_journal journal.Full which_fault cause = tt
  own_of_journal journal.TooLong which_fault cause = tt
  own_of_journal journal.Failed (inl is) cause = absurd (cc)
  own_of_journal journal.Failed (inr is) cause = let same = is.1 in absurd (cc)

  -- one of a journal
  pub journal_cause : (fault : JournalFault) (e : ReadFault) → e ≡ read_of_journal fault
      → (fault ≡ journal.Memory) ⊎ ((d : DiskFault) × (fault ≡ journal.Disk d))
      → ((d : DiskFault) → ◌≡◌ {A = Result T JournalFault} (Err fault) (Err (journal.Disk d))
      → old.faults < new.faults)
      → HasReadCause old new e
  journal_cause fault e is which_fault cause =
      subst (λ (f : ReadFault). HasReadCause old new f) (sym is)
      (own_of_journal fault which_fault cause)
