-- What an image shows is one (this project's own).
use Rattle.std.specs.Prelude.{◌≡◌, ℕ, ◌+◌, ◌<◌, ◌≤◌, List, IsTrue, Result, Err, IsErr}
use Rattle.sector_disk.specs.rules.DiskImage.{DiskImage}
use Rattle.disk_layout.specs.declared.geometry.Geometry.{Geometry}
use Rattle.disk_layout.specs.rules.Sectors.{HoldsProcessImage}
use Rattle.snapshot.specs.rules.Heads.{HasNone, heads_to, IsReadyForHead}
use Rattle.snapshot.specs.rules.Newest.{IsDamaged}
use Rattle.snapshot.specs.rules.Steps.{KeepsNewest}
use Rattle.snapshot.specs.rules.Snapshots.{is_failed, StaysFailed}
use Rattle.snapshot.specs.declared.fault.SnapshotFault.{SnapshotFault}
use Rattle.snapshot.specs.declared.fault.SnapshotFault.TheVariants.{Failed}
use Rattle.snapshot.specs.declared.snapshots.Snapshots.{Snapshots}

-- An image shows no complete head, or a newest one that names no bytes that are there, or one
-- snapshot, and one of these alone.
pub record DiskImageShowsOne : Type 0 where
  pub same : (geometry : Geometry) (x : DiskImage) (g h v w : ℕ) (a b : List ℕ)
      → HoldsProcessImage geometry x g v a → HoldsProcessImage geometry x h w b → (g ≡ h)
      × (v ≡ w) × (a ≡ b)
  pub some : (geometry : Geometry) (x : DiskImage) (g v : ℕ) (a : List ℕ)
      → HoldsProcessImage geometry x g v a → HasNone x → ⊥
  pub whole : (geometry : Geometry) (x : DiskImage) (g v : ℕ) (a : List ℕ)
      → HoldsProcessImage geometry x g v a → IsDamaged geometry x → ⊥
  pub headed : (geometry : Geometry) (x : DiskImage) → IsDamaged geometry x → HasNone x → ⊥

-- Where a commit has left what was newest, its generation can be begun again.
pub record CanBeginAgain : Type 0 where
  pub first : (geometry : Geometry) (old new : DiskImage) → HasNone old → heads_to old < 1
      → KeepsNewest geometry old new → IsReadyForHead 1 new
  pub later : (geometry : Geometry) (g version : ℕ) (bytes : List ℕ) (old new : DiskImage)
      → HoldsProcessImage geometry old g version bytes → heads_to old ≤ g
      → KeepsNewest geometry old new → IsReadyForHead (g + 1) new

-- After an error the next call answers `Failed`, and so does each one after it.
abbrev pub FailsForGood : Type 0
FailsForGood = (first second : Result (Unit {0}) SnapshotFault) (a b c : Snapshots)
    → StaysFailed first a b → IsErr first → StaysFailed second b c
    → (second ≡ Err Failed) × IsTrue (is_failed c)
