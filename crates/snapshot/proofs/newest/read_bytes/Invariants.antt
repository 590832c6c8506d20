use Rattle.std.proofs.Common.{◌≡◌, ◌≤◌, ◌+◌, ◌*◌, length}
use Rattle.sector_disk.specs.rules.DiskImage.{DiskImage}
use Rattle.disk_layout.specs.rules.Sectors.{bytes_from}
use Rattle.disk_layout.specs.rules.Stored.{OnlyReads}
use Rattle.snapshot.proofs.newest.read_bytes.Given as goal

abbrev pub invariant-loop-i : goal.invariant-loop-i
invariant-loop-i g l =
    let old = g.D.Disk.medium l.fn.disk in
    let now = g.D.Disk.medium l.disk in
    record {
      reads : OnlyReads old now;
      counted : now.counted ≤ old.counted + l.i;
      len : length l.bytes.items ≡ 512 * l.i;
      bytes : (image : DiskImage) → now.shows image → l.bytes.items ≡ bytes_from image l.at l.i;
    }
