-- What a push does to the sink of an area (this project's own).
use Rattle.std.specs.Prelude.{◌≡◌, ℕ, List, Result}
use Rattle.sector_disk.specs.declared.disk.Disk.{Ghosts}
use Rattle.snapshot.specs.declared.fault.SnapshotFault.{SnapshotFault}
use Rattle.worker_store.specs.declared.area_sink.AreaSink.{AreaSink}
use Rattle.worker_store.specs.Filling.{TakesBytes}

-- It borrows the same things, and its disk has taken the piece.
pub record TakesPiece {D : Type 0} {disk : Ghosts D} (old : AreaSink D disk) (piece : List ℕ)
    (said : Result (Unit {0}) SnapshotFault) (new : AreaSink D disk) : Type 0 where
  pub geometry : new.geometry ≡ old.geometry
  pub same_snapshots : new.snapshots.ghost_name ≡ old.snapshots.ghost_name
  pub same_disk : new.disk.ghost_name ≡ old.disk.ghost_name
  pub takes : TakesBytes old.geometry piece said old.snapshots.now new.snapshots.now
      (disk.medium old.disk.now) (disk.medium new.disk.now)
