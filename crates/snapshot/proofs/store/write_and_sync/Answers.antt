use Rattle.std.proofs.Common.{[], ◌∷◌, ◌+◌, max, arith, rules}
use Rattle.std.proofs.lemmas.Result.{on_ok_weaker}
use Rattle.sector_disk.proofs.CountLemmas.{counts_more, counts_then}
use Rattle.sector_disk.proofs.CallLemmas.{begun_first, performed_then}
use Rattle.sector_disk.specs.declared.disk_call.DiskCall.TheVariants.{WriteOf, Sync}
use Rattle.snapshot.proofs.StoreLemmas.{write_on_synced, write_then_sync, written_crashed}
use Rattle.snapshot.proofs.store.write_and_sync.Goals as goal

pub returns-in_err-write : goal.returns-in_err-write
returns-in_err-write g c =
    let old = g.D.Disk.medium c.args.disk.now in
    let new = g.D.Disk.medium c.write.new.self in
    record {
      written = search rules;
      all_synced = search rules;
      any_moment =
          write_on_synced c.args.at c.args.sector.now old new c.requires.all_synced
          c.write.ensures.tears c.write.ensures.passes;
      counts = let s = c.requires.all_synced.unsynced in
          counts_more (old.unsynced + 1) (max old.unsynced 1) old new (omega (
            arith,
            s,
          )) c.write.ensures.counts;
      calls = record {
        all = search rules;
        begun = begun_first (WriteOf c.args.at ∷ []) (Sync
            ∷ []) old new c.write.ensures.calls.begun;
      };
      counted = omega (arith, c.write.ensures.counted);
      cause = search rules;
    }

pub returns : goal.returns
returns g c =
    let old = g.D.Disk.medium c.args.disk.now in
    let new = g.D.Disk.medium c.write.new.self in
    let last = g.D.Disk.medium c.make_durable.new.disk in
    let takes = c.in_ok-write.ensures.whole in
    record {
      written = on_ok_weaker c.make_durable.result (λ done.
          written_crashed c.args.at c.args.sector.now old new c.requires.all_synced
          c.write.ensures.tears c.write.ensures.passes last takes.both
          c.make_durable.ensures.stays done) c.make_durable.ensures.all_synced;
      all_synced = c.make_durable.ensures.all_synced;
      any_moment =
          write_then_sync c.args.at c.args.sector.now old new c.requires.all_synced
          c.write.ensures.tears c.write.ensures.passes last c.make_durable.ensures.stays
          c.make_durable.ensures.passes;
      counts =
          let s = c.requires.all_synced.unsynced in
          let t = c.write.ensures.tears.unsynced in
          let p = c.write.ensures.passes in
          counts_then (old.unsynced + 1) new.unsynced (max old.unsynced 1) old new last
          (omega (arith, s)) (omega (
            arith,
            s,
            t,
          )) p.later c.write.ensures.counts c.make_durable.ensures.counts;
      calls = performed_then (WriteOf c.args.at ∷ []) (Sync
          ∷ []) c.make_durable.result old new last c.in_ok-write.ensures.calls.all
          c.make_durable.ensures.calls;
      counted = omega (arith, c.write.ensures.counted, c.make_durable.ensures.counted);
      cause = search rules;
    }
