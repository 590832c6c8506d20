-- What a `FaultDisk` is told and has counted.
use Rattle.std.specs.Prelude.{Bool, Option}
use Rattle.sector_disk.specs.rules.Trouble.{CallCounts, call_number, trouble_at}
use Rattle.sector_disk.specs.declared.fault_point.FaultPoint.{FaultPoint}
use Rattle.sector_disk.specs.declared.trouble.Trouble.{Trouble}
use Rattle.sector_disk.specs.declared.fault_disk.FaultDisk.{FaultDisk}

module _ {D : Type 0} where
  -- the disk that it hands calls on to
  abbrev pub disk_below : FaultDisk D → D
  disk_below f = f.inner

  -- where it is to stop, and where to fail
  abbrev pub stop_of : FaultDisk D → Option FaultPoint
  stop_of f = f.stop

  -- where it is to fail
  abbrev pub fail_of : FaultDisk D → Option FaultPoint
  fail_of f = f.fail

  -- how many calls of each kind were begun
  abbrev pub call_counts_of : FaultDisk D → CallCounts
  call_counts_of f = record { reads = f.reads; writes = f.writes; syncs = f.syncs }

  -- what the last call has met
  abbrev pub trouble_of : FaultDisk D → Option Trouble
  trouble_of f = trouble_at f.stop f.fail (call_number (call_counts_of f))

  -- whether it stopped at a write of which the disk below took a front
  abbrev pub torn_front_of : FaultDisk D → Bool
  torn_front_of f = f.has_torn_front
