-- What the images of a disk hold of a promise (this project's own).
use Rattle.std.specs.Prelude.{◌≡◌, ◌⊎◌, ℕ, ◌≤◌, true, List, length, take}
use Rattle.wasm_syntax.specs.declared.module.Module.{Module}
use Rattle.wasi_abi.specs.rules.Configs.{Settings}
use Rattle.process_rules.specs.Runs.{Kept}
use Rattle.sector_disk.specs.rules.DiskImage.{DiskImage}
use Rattle.sector_disk.specs.rules.Medium.{Medium, LeavesOnly}
use Rattle.disk_layout.specs.rules.Places.{geometry_of, total_sectors}
use Rattle.worker_store.specs.restart_theorem.Stands.{StandsFor, IsBlank}
use Rattle.worker_store.specs.restart_theorem.Promises.{Promise, nothing_yet, HoldsAll}

-- A creation was begun. The image stands for a prefix of the answers kept now that holds all that
-- was promised then. An outlet has taken the lines of its snapshot, and those that are told no more
-- are among them.
pub record HoldsPromise (m : Module) (config : Settings) (then now : Promise) (disk : DiskImage)
    : Type 0 where
  pub created : now.was_created ≡ true
  pub held : ℕ
  pub steps : ℕ
  pub stands : StandsFor disk m config (take held now.kept) steps
  pub holds : HoldsAll m config now.kept then held steps
  pub snapshot_heard : stands.saved.lines ≤ now.heard
  pub snapshot_passed : then.passed ≤ stands.saved.lines

-- Nothing has been promised yet, however much has happened. A creation may have been begun.
abbrev pub IsNothingYet : Promise → Type 0
IsNothingYet promise = promise ≡ record nothing_yet {
  was_created = promise.was_created;
  events = promise.events;
}

-- until something is promised there may be no worker on it
abbrev pub IsUnopened : Promise → DiskImage → Type 0
IsUnopened promise disk = IsNothingYet promise × IsBlank disk

-- The one predicate that joins promise and disk. An image that a cut may leave within a call holds
-- all that was promised when the call began. The answers and the lines of a snapshot may be
-- those of the call itself.
abbrev pub DiskImageHolds : Module → Settings → Promise → Promise → DiskImage → Type 0
DiskImageHolds m config then now disk = IsUnopened then disk ⊎ HoldsPromise m config then now disk

-- a cut now leaves what holds all that is promised
abbrev pub KeepsPromise : Module → Settings → Promise → Medium → Type 0
KeepsPromise m config promise disk =
    (image : DiskImage) → disk.crash_images image → DiskImageHolds m config promise promise image

-- What a call leaves of a promise, by Ok or by any error. A cut at any moment of it leaves what
-- holds all that was promised when it began. A cut now leaves what holds all that is promised now.
pub record CarriesPromise (m : Module) (config : Settings) (then now : Promise)
    (old new : Medium) : Type 0 where
  pub at_any_moment : LeavesOnly old new (DiskImageHolds m config then now)
  pub in_the_end : KeepsPromise m config now new

-- ---- bounds

-- Whatever worker the image stands for, its generation is at most this, and so many sectors are
-- enough for all its places.
abbrev pub IsBounded : ℕ → ℕ → DiskImage → Type 0
IsBounded latest sectors disk = (m : Module) (config : Settings) (kept : List Kept) (n : ℕ)
    (stands : StandsFor disk m config kept n) → (stands.generation ≤ latest)
    × (total_sectors (geometry_of config (length stands.wasm)) ≤ sectors)

-- so it is of each image that a cut now may leave
abbrev pub KeepsBounds : ℕ → Medium → Type 0
KeepsBounds latest disk =
    (image : DiskImage) → disk.crash_images image → IsBounded latest disk.sectors image

-- and so it is of each that a cut at any moment since then may have left
abbrev pub StaysWithin : ℕ → Medium → Medium → Type 0
StaysWithin latest old new = LeavesOnly old new (IsBounded latest old.sectors)
