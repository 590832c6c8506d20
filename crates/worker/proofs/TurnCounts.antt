-- How many writes wait for a sync at once in the parts of a slice, one after another.
use Rattle.std.proofs.Common.{◌≡◌, ℕ, ◌+◌, ◌-◌, ◌<◌, ◌≤◌, length, sym, subst, ⊎_elim, arith}
use Rattle.std.proofs.lemmas.Bool.{cases_lt}
use Rattle.sector_disk.specs.rules.Medium.{Medium, CountsUpTo}
use Rattle.sector_disk.proofs.CountLemmas.{counts_same, counts_more, counts_then}
use Rattle.disk_layout.specs.rules.Places.{Geometry}
use Rattle.journal.specs.rules.Packed.{sectors_for}
use Rattle.worker_store.specs.declared.store.WorkerStore.{WorkerStore}
use Rattle.worker.specs.rules.Unsynced.{CountsInSlice, most_in_slice}

-- no call
pub counts_none : (places : Geometry) (disk : Medium) → CountsInSlice places disk disk
counts_none places disk = counts_same disk (disk.unsynced + most_in_slice places)

-- one part that leaves no more than before, and another
pub counts_join : (a b : Geometry) (d e f : Medium) → b ≡ a → e.unsynced ≤ d.unsynced
    → d.moment ≤ e.moment → CountsInSlice a d e → CountsInSlice b e f → CountsInSlice a d f
counts_join a b d e f same fewer later one two =
    let onward : CountsInSlice a e f = subst (λ (g : Geometry). CountsInSlice g e f) same two in
    counts_then (d.unsynced + most_in_slice a) (e.unsynced + most_in_slice a)
    (d.unsynced + most_in_slice a) d e f (omega arith) (omega (arith, fewer)) later one onward

-- Those of a barrier. Where the journal has too few sectors, nothing is written.
pub barrier_counts : {D : Type 0} (medium : D → Medium) (old : WorkerStore) (P : Type 0)
    (disk disk' : D)
    → (old.geometry.journal_sectors - old.journal.used < sectors_for (length old.journal.kept)
    → P × (disk' ≡ disk))
    → CountsUpTo ((medium disk).unsynced + sectors_for (length old.journal.kept)) (medium disk)
    (medium disk') → CountsInSlice old.geometry (medium disk) (medium disk')
barrier_counts medium old P disk disk' full counts =
    let many : ℕ = sectors_for (length old.journal.kept) in
    let few : ℕ = old.geometry.journal_sectors - old.journal.used in
    let before : ℕ = (medium disk).unsynced in
    ⊎_elim
    (λ (more : few < many). let so = full more in
    subst (λ d. CountsInSlice old.geometry (medium disk) (medium d)) (sym so.1)
    (counts_none old.geometry (medium disk)))
    (λ (fits : many ≤ few). counts_more (before + many) (before + most_in_slice old.geometry)
    (medium disk) (medium disk') (omega (arith, fits)) counts)
    (cases_lt few many)

-- those of a commit
pub commit_counts : (places : Geometry) (disk disk' : Medium)
    → CountsUpTo (disk.unsynced + places.area_sectors + 1) disk disk'
    → CountsInSlice places disk disk'
commit_counts places disk disk' counts =
    counts_more (disk.unsynced + places.area_sectors + 1) (disk.unsynced + most_in_slice places)
    disk disk' (omega arith) counts
