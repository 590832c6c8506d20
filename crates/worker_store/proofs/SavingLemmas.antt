-- An image that is begun, pushed and ended.
use Rattle.std.proofs.Common.{◌≡◌, ℕ, ◌+◌, ◌/◌, min, length, ap, ◌∙◌, sym, subst, arith}
use Rattle.std.specs.Prelude.{Result, Ok, Err, IsErr}
use Rattle.std.proofs.lemmas.Bool.{false≢true}
use Rattle.wasi_abi.specs.declared.version.Version.{Version}
use Rattle.wasi_abi.specs.rules.Versions.{version_number}
use Rattle.process.specs.rules.Values.{ProcessValue}
use Rattle.state_image.specs.rules.Saving.{saved_of}
use Rattle.sector_disk.specs.rules.DiskImage.{DiskImage}
use Rattle.sector_disk.specs.rules.Medium.{Medium, LeavesOnly, Passes, CountsUpTo}
use Rattle.sector_disk.proofs.CountLemmas.{counts_more}
use Rattle.sector_disk.proofs.Moments.{weaker}
use Rattle.disk_layout.specs.declared.geometry.Geometry.{Geometry}
use Rattle.disk_layout.specs.rules.Places.{area_place}
use Rattle.snapshot.specs.declared.snapshots.Snapshots.{Snapshots}
use Rattle.snapshot.specs.declared.writing.Writing.{Writing}
use Rattle.snapshot.specs.rules.Calls.{PerformsStoresAndHead}
use Rattle.snapshot.specs.rules.Images.{NewImage, WritesImage}
use Rattle.snapshot.specs.rules.Snapshots.{BeginsImage}
use Rattle.snapshot.proofs.StoreCalls.{stores, BeginsStoresAndHead, none_stored, no_head}

-- time and room go on
pub goes : {old new : Medium} {P : DiskImage → Type 0} → LeavesOnly old new P
    → Passes old new (λ image. Unit {0})
goes {old} {new} {P} leaves =
    weaker old new P (λ image. Unit {0}) leaves.passes (λ image at. tt)

-- stores that were begun, where an error is answered
pub made_no_head : {T E : Type 0} (writing : Writing) (at n g : ℕ) (r : Result T E)
    (old new : Medium) → IsErr r → BeginsStoresAndHead (stores writing at n) g old new
    → PerformsStoresAndHead (stores writing at n) g r old new
made_no_head writing at n g (Ok done) old new is_err begun = absurd (false≢true is_err)
made_no_head writing at n g (Err fault) old new is_err begun =
    (begun.0, begun.1, record { all = tt; begun = begun.2 })

-- no call
pub none_performed : {T E : Type 0} (writing : Writing) (at n g : ℕ) (r : Result T E) (m : Medium)
    → IsErr r → PerformsStoresAndHead (stores writing at n) g r m m
none_performed writing at n g r m is_err =
    made_no_head writing at n g r m m is_err
    (no_head writing at n g m m (none_stored writing at n m))

pub none_performed_still : {D T E : Type 0} (medium : D → Medium) (writing : Writing) (at n g : ℕ)
    (r : Result T E) (old new : D) → new ≡ old → IsErr r
    → PerformsStoresAndHead (stores writing at n) g r (medium old) (medium new)
none_performed_still medium writing at n g r old new same is_err =
    subst (λ d. PerformsStoresAndHead (stores writing at n) g r (medium old) (medium d)) (sym same)
    (none_performed writing at n g r (medium old) is_err)

-- the same under another answer, of a generation that is the same
module _ {T U E F : Type 0} (geometry : Geometry) (writing : Writing) (count n g : ℕ)
    (old new : Medium) (same : n ≡ g) where
  pub stored_err : (q : Result U F) (r : Result T E) → IsErr r
      → PerformsStoresAndHead (stores writing (area_place geometry n) count) n q old new
      → PerformsStoresAndHead (stores writing (area_place geometry g) count) g r old new
  stored_err q r is_err made =
      let makes = made.2 in
      subst (λ k. PerformsStoresAndHead (stores writing (area_place geometry k) count) k r old new)
      same
      (made_no_head writing (area_place geometry n) count n r old new is_err
      (made.0, made.1, makes.begun))

  pub stored_ok : (x : T) (y : U)
      → PerformsStoresAndHead {E = F} (stores writing (area_place geometry n) count) n
      (Ok y) old new → PerformsStoresAndHead {E = E} (stores writing (area_place geometry g) count)
      g (Ok x) old new
  stored_ok x y made =
      let makes = made.2 in
      let r : Result T E = Ok x in
      subst (λ k. PerformsStoresAndHead (stores writing (area_place geometry k) count) k r old new)
      same
      (made.0, made.1, record { all = makes.all; begun = makes.begun })

-- an image that was begun by a number is one of the version that has it, which is a process's
pub begun_as : (v : Version) (number : ℕ) (process : ProcessValue) → number ≡ version_number v
    → v ≡ process.host.host.version → (g : ℕ) (writing : Writing) (s : Snapshots)
    → BeginsImage g number writing s
    → BeginsImage g (version_number (saved_of process).version) writing s
begun_as v number process numbered version g writing s begun =
    subst (λ k. BeginsImage g k writing s) (numbered ∙ ap version_number version) begun

-- no more unsynced writes than before, an area's, and the head
pub area_counts : {T E : Type 0} (geometry : Geometry) (image : NewImage) (r : Result T E)
    (old new : Medium) → WritesImage geometry image r old new
    → CountsUpTo (old.unsynced + geometry.area_sectors + 1) old new
area_counts geometry image r old new writes =
    counts_more (old.unsynced + min (length image.bytes / 512) geometry.area_sectors + 1)
    (old.unsynced + geometry.area_sectors + 1) old new (omega arith) writes.counts
