use Rattle.std.proofs.Common.{◌≡◌, ◌≤◌, ◌+◌, ◌*◌, ◌++◌}
use Rattle.sector_disk.specs.rules.Medium.{CountsUpTo, Passes}
use Rattle.sector_disk.specs.rules.Calls.{rising_writes}
use Rattle.sector_disk.specs.rules.Rewrite.{AddsNothing}
use Rattle.sector_disk.proofs.rewriting.write_all_back.Given as goal

abbrev pub invariant-loop-sector : goal.invariant-loop-sector
invariant-loop-sector g l =
    let old = g.D.Disk.medium l.fn.disk in
    let now = g.D.Disk.medium l.disk in
    record {
      adds : AddsNothing old now;
      unsynced : now.unsynced ≤ old.unsynced + l.sector;
      counts : CountsUpTo (old.unsynced + l.sector) old now;
      counted : now.counted ≤ old.counted + 2 * l.sector;
      calls : now.calls ≡ rising_writes 0 l.sector ++ old.calls;
      passes : Passes old now old.crash_images;
    }
