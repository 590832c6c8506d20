use Rattle.std.proofs.Common.{[], ◌∷◌, ◌+◌, arith, rules}
use Rattle.sector_disk.specs.declared.disk_call.DiskCall.TheVariants.{WriteOf}
use Rattle.sector_disk.proofs.CallLemmas.{performed_since}
use Rattle.sector_disk.proofs.CountLemmas.{counts_then}
use Rattle.sector_disk.proofs.Moments.{stays_passes}
use Rattle.sector_disk.proofs.RewriteLemmas.{held_adds, adds_then, adds_passes, adds_leaves}
use Rattle.sector_disk.proofs.rewriting.write_back.Goals as goal

pub returns : goal.returns
returns g c =
    let old = g.D.Disk.medium c.args.disk.now in
    let mid = g.D.Disk.medium c.read.new.self in
    let new = g.D.Disk.medium c.write.new.self in
    let read = c.in_ok-read.ensures in
    let held = held_adds c.args.sector _ mid new read.bytes c.write.ensures.tears in
    let stays = c.read.ensures.stays in
    let u = c.read.ensures.unsynced in
    let p = c.read.ensures.passes in
    let w = c.write.ensures.tears in
    let cause = c.write.ensures.cause in
    record {
      adds_nothing = adds_then old mid new stays.crash_pairs held;
      any_moment = adds_leaves old new (adds_passes old mid new stays.crash_pairs held
          (stays_passes old mid stays p) c.write.ensures.passes);
      unsynced = omega (arith, w.unsynced);
      counts = counts_then old.unsynced (mid.unsynced + 1) (old.unsynced + 1) old mid new
          (omega arith) (omega arith) p.later c.read.ensures.counts c.write.ensures.counts;
      performed = performed_since (WriteOf c.args.sector ∷ []) c.write.result old mid new
          c.read.ensures.calls c.write.ensures.calls;
      counted = omega (arith, c.read.ensures.counted, c.write.ensures.counted);
      cause = search rules;
      which_fault = record {
        no_range = λ e. let out = cause.range e in let s = p.sectors in omega arith;
        no_memory = cause.no_memory;
      };
    }
