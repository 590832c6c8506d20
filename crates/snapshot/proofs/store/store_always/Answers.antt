use Rattle.std.proofs.Common.{[], ◌∷◌, arith, rules}
use Rattle.sector_disk.specs.declared.disk_call.DiskCall.TheVariants.{WriteOf}
use Rattle.snapshot.proofs.StoreCalls.{one_always}
use Rattle.std.proofs.lemmas.Result.{on_ok_weaker}
use Rattle.snapshot.proofs.StoreLemmas.{write_only}
use Rattle.snapshot.proofs.store.store_always.Goals as goal

pub returns : goal.returns
returns g c =
    let old = g.D.Disk.medium c.args.disk.now in
    let new = g.D.Disk.medium c.write.new.self in
    let tears = c.write.ensures.tears in
    record {
      whole = on_ok_weaker c.write.result (λ takes. takes.both) c.write.ensures.whole;
      any_moment = write_only c.args.at c.args.sector.now old new tears c.write.ensures.passes;
      told = on_ok_weaker c.write.result (λ takes. takes.unsynced) c.write.ensures.whole;
      unsynced = tears.unsynced;
      counts = c.write.ensures.counts;
      calls = (WriteOf c.args.at ∷ [], one_always c.args.at, c.write.ensures.calls);
      counted = omega (arith, c.write.ensures.counted);
      cause = search rules;
    }
