-- What a `Snapshots` is in the middle of (this project's own).
use Rattle.std.specs.Prelude.{◌≡◌, ◌↔◌, ℕ, ◌+◌, ◌*◌, ◌/◌, ◌≤◌, Bool, true, false, IsTrue, Result}
use Rattle.std.specs.Prelude.{Err, IsErr}
use Rattle.disk_layout.specs.declared.geometry.Geometry.{Geometry}
use Rattle.snapshot.specs.declared.fault.SnapshotFault.{SnapshotFault}
use Rattle.snapshot.specs.declared.fault.SnapshotFault.TheVariants.{Failed}
use Rattle.snapshot.specs.Writing.{written_length, Starts}
use Rattle.snapshot.specs.declared.writing.Writing.{Writing}
use Rattle.snapshot.specs.declared.writer.AreaWriter.{AreaWriter}
use Rattle.snapshot.specs.declared.snapshots.SaveState.{SaveState}
use Rattle.snapshot.specs.declared.snapshots.SaveState.TheVariants as state
use Rattle.snapshot.specs.declared.snapshots.Snapshots.{Snapshots}
use Rattle.sector_disk.specs.declared.sector.TheConstants.{SECTOR_SIZE}

-- a call has failed
abbrev pub has_failed : SaveState → Bool
has_failed state.Failed = true
has_failed state.Idle = false
has_failed (state.Begun w) = false

-- no image is begun, and no call has failed
abbrev pub is_idle_state : SaveState → Bool
is_idle_state state.Failed = false
is_idle_state state.Idle = true
is_idle_state (state.Begun w) = false

-- a call has failed
abbrev pub is_failed : Snapshots → Bool
is_failed s = has_failed s.state

-- no image is begun, and no call has failed
abbrev pub is_idle : Snapshots → Bool
is_idle s = is_idle_state s.state

-- from an error on it is failed, and then each call answers `Failed`
pub record StaysFailed {T : Type 0} (result : Result T SnapshotFault) (old new : Snapshots) :
    Type 0 where
  pub failed : IsTrue (is_failed new) ↔ IsErr result
  pub refused : (result ≡ Err Failed) ↔ IsTrue (is_failed old)

-- ---- the image that is begun

-- this image is begun
abbrev pub IsBegun : Snapshots → AreaWriter → Type 0
IsBegun s w = s.state ≡ state.Begun w

-- how many more sectors of it so many more bytes fill
abbrev pub filled_by : AreaWriter → ℕ → ℕ
filled_by w count = (w.filled + count) / SECTOR_SIZE

-- the same image is in the middle of being written
pub record IsSameProcessImage (old new : AreaWriter) : Type 0 where
  pub generation : new.generation ≡ old.generation
  pub version : new.version ≡ old.version
  pub writing : new.writing ≡ old.writing

-- an image of this generation and version is begun, to be written so, and no byte of it was pushed
pub record BeginsImage (g v : ℕ) (told : Writing) (s : Snapshots) : Type 0 where
  pub begun : is_idle s ≡ false
  pub image : AreaWriter
  pub is : IsBegun s image
  pub starts : Starts g v told image

-- its area has room for the bytes that were pushed
abbrev pub FitsArea : Geometry → AreaWriter → Type 0
FitsArea geometry w = written_length w ≤ SECTOR_SIZE * geometry.area_sectors

-- an image is begun that fits its area, or a call has failed
abbrev pub CanEnd : Geometry → SaveState → Type 0
CanEnd geometry (state.Begun w) = FitsArea geometry w
CanEnd geometry state.Idle = ⊥
CanEnd geometry state.Failed = Unit {0}
