use Rattle.std.proofs.Common.{◌≡◌, length, drop}
use Rattle.sector_disk.specs.rules.DiskImage.{IsDiskImage}
use Rattle.sector_disk.specs.rules.Pending.{torn_by}
use Rattle.sector_disk.proofs.memory.leave_writes.Given as goal

abbrev pub invariant-loop-i : goal.invariant-loop-i
invariant-loop-i l = record {
  image : IsDiskImage (length l.fn.sectors.items) l.sectors.items;
  torn : torn_by (drop l.i l.tears) (drop l.i l.writes) l.sectors.items
      ≡ torn_by l.tears l.writes l.fn.sectors.items;
}
