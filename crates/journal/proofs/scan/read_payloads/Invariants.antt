use Rattle.std.proofs.Common.{◌≡◌, ◌+◌, ◌<◌, ◌≤◌, ℕ, true}
use Rattle.sector_disk.specs.rules.DiskImage.{DiskImage, sector_at}
use Rattle.disk_layout.specs.rules.Journal.{is_of}
use Rattle.disk_layout.specs.Scanned.{payloads_from}
use Rattle.disk_layout.specs.rules.Stored.{OnlyReads}
use Rattle.journal.proofs.scan.read_payloads.Given as goal

abbrev pub invariant-loop-k : goal.invariant-loop-k
invariant-loop-k g l =
    let old = g.D.Disk.medium l.fn.disk in
    let now = g.D.Disk.medium l.disk in
    record {
      reads : OnlyReads old now;
      counted : now.counted ≤ old.counted + l.k;
      on : (image : DiskImage) → now.shows image → (i : ℕ) → i < l.k
          → is_of l.generation (1 + i) (sector_at image (l.at + i)) ≡ true;
      payloads : (image : DiskImage) → now.shows image
          → payloads_from image l.generation l.at 1 l.k ≡ l.bytes.items;
    }
