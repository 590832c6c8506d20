use Rattle.std.proofs.Common.{[], ◌∷◌, ◌≡◌, ◌+◌, ◌∙◌, arith, rules}
use Rattle.std.proofs.lemmas.Result.{on_ok_weaker}
use Rattle.sector_disk.proofs.CountLemmas.{counts_more, counts_then}
use Rattle.sector_disk.proofs.CallLemmas.{performed_since}
use Rattle.sector_disk.specs.declared.disk_call.DiskCall.TheVariants.{WriteOf}
use Rattle.snapshot.proofs.StoreCalls.{one_changed, none_changed}
use Rattle.snapshot.proofs.StoreLemmas.{as_written, stays_both, read_leaves, write_leaves}
use Rattle.snapshot.proofs.StoreLemmas.{held_before}
use Rattle.snapshot.proofs.store.store_changed.Goals as goal

pub returns-in_err-read : goal.returns-in_err-read
returns-in_err-read g c =
    let old = g.D.Disk.medium c.args.disk.now in
    let new = g.D.Disk.medium c.read.new.self in
    record {
      whole = search rules;
      any_moment =
          read_leaves c.args.at c.args.sector.now old new c.read.ensures.stays
          c.read.ensures.passes;
      told = λ image shows holds. c.read.ensures.counts;
      unsynced = let u = c.read.ensures.unsynced in omega (arith, u);
      counts = counts_more old.unsynced (old.unsynced + 1) old new
          (omega arith) c.read.ensures.counts;
      calls = (
        [],
        none_changed c.args.at 1,
        record {
          all = search rules;
          begun = (0, c.read.ensures.calls);
        },
      );
      counted = omega (arith, c.read.ensures.counted);
      cause = search rules;
    }

pub returns-then-same : goal.returns-then-same
returns-then-same g c =
    let old = g.D.Disk.medium c.args.disk.now in
    let new = g.D.Disk.medium c.read.new.self in
    let is = c.same.ensures in
    let same : c.read.new.into ≡ c.args.sector.now = is.0 c.if-same.true in
    record {
      whole = as_written old new c.args.at c.args.sector.now c.read.ensures.stays (λ image shows.
          c.in_ok-read.ensures.bytes image shows ∙ same);
      any_moment =
          read_leaves c.args.at c.args.sector.now old new c.read.ensures.stays
          c.read.ensures.passes;
      told = λ image shows holds. c.read.ensures.counts;
      unsynced = let u = c.read.ensures.unsynced in omega (arith, u);
      counts = counts_more old.unsynced (old.unsynced + 1) old new
          (omega arith) c.read.ensures.counts;
      calls = (
        [],
        none_changed c.args.at 1,
        record {
          all = c.read.ensures.calls;
          begun = (0, c.read.ensures.calls);
        },
      );
      counted = omega (arith, c.read.ensures.counted);
      cause = search rules;
    }

pub returns-else-same : goal.returns-else-same
returns-else-same g c =
    let old = g.D.Disk.medium c.args.disk.now in
    let mid = g.D.Disk.medium c.read.new.self in
    let new = g.D.Disk.medium c.write.new.self in
    let stays = c.read.ensures.stays in
    let tears = c.write.ensures.tears in
    let is = c.same.ensures in
    record {
      whole = on_ok_weaker c.write.result (λ takes. stays_both old mid new _ _ stays takes.both)
          c.write.ensures.whole;
      any_moment =
          write_leaves c.args.at c.args.sector.now old mid stays c.read.ensures.passes new tears
          c.write.ensures.passes;
      told = λ image shows holds.
          let same = is.1
          (held_before c.args.at c.args.sector.now old mid stays c.read.ensures.passes new
          c.read.new.into c.in_ok-read.ensures.bytes tears image shows holds) in
          let other = c.if-same.false in
          absurd (cc);
      unsynced = let u = c.read.ensures.unsynced in let t = tears.unsynced in omega (arith, u, t);
      counts = let u = c.read.ensures.unsynced in let p = c.read.ensures.passes in
          counts_then old.unsynced (mid.unsynced + 1) (old.unsynced + 1) old mid new (omega arith)
          (omega (arith, u)) p.later c.read.ensures.counts c.write.ensures.counts;
      calls = (
        WriteOf c.args.at ∷ [],
        one_changed c.args.at,
        performed_since (WriteOf c.args.at
            ∷ []) c.write.result old mid new c.read.ensures.calls c.write.ensures.calls,
      );
      counted = omega (arith, c.read.ensures.counted, c.write.ensures.counted);
      cause = search rules;
    }
