use Rattle.std.proofs.Common.{[], ◌∷◌, max, arith, rules}
use Rattle.std.proofs.lemmas.Result.{on_ok_weaker}
use Rattle.sector_disk.proofs.CountLemmas.{counts_more, counts_then}
use Rattle.sector_disk.proofs.CallLemmas.{begun_first, performed_then}
use Rattle.sector_disk.specs.declared.disk_call.DiskCall.TheVariants.{WriteOf, Sync}
use Rattle.snapshot.proofs.StoreLemmas.{sync_leaves, sync_then, written_since}
use Rattle.snapshot.proofs.store.write_durably.Goals as goal

pub returns-in_err-make_durable : goal.returns-in_err-make_durable
returns-in_err-make_durable g c =
    let old = g.D.Disk.medium c.args.disk.now in
    let mid = g.D.Disk.medium c.make_durable.new.disk in
    record {
      written = search rules;
      all_synced = search rules;
      any_moment =
          sync_leaves c.args.at c.args.sector.now old mid c.make_durable.ensures.stays
          c.make_durable.ensures.passes;
      counts = counts_more old.unsynced (max old.unsynced 1) old mid
          (omega arith) c.make_durable.ensures.counts;
      calls = record {
        all = search rules;
        begun = begun_first (Sync ∷ []) (Sync ∷ WriteOf c.args.at
            ∷ []) old mid c.make_durable.ensures.calls.begun;
      };
      counted = omega (arith, c.make_durable.ensures.counted);
      cause = search rules;
    }

pub returns : goal.returns
returns g c =
    let old = g.D.Disk.medium c.args.disk.now in
    let mid = g.D.Disk.medium c.make_durable.new.disk in
    let new = g.D.Disk.medium c.write_and_sync.new.disk in
    let stays = c.make_durable.ensures.stays in
    record {
      written = on_ok_weaker c.write_and_sync.result
          (written_since c.args.at c.args.sector.now old mid stays
          c.make_durable.ensures.passes new) c.write_and_sync.ensures.written;
      all_synced = c.write_and_sync.ensures.all_synced;
      any_moment =
          sync_then c.args.at c.args.sector.now old mid stays c.make_durable.ensures.passes new
          c.write_and_sync.ensures.any_moment;
      counts = let u = stays.unsynced in let p = c.make_durable.ensures.passes in
          counts_then old.unsynced (max mid.unsynced 1) (max old.unsynced 1) old mid new
          (omega arith) (omega (
            arith,
            u,
          )) p.later c.make_durable.ensures.counts c.write_and_sync.ensures.counts;
      calls = performed_then (Sync ∷ []) (Sync ∷ WriteOf c.args.at
          ∷ []) c.write_and_sync.result old mid new c.in_ok-make_durable.ensures.calls.all
          c.write_and_sync.ensures.calls;
      counted = omega (arith, c.make_durable.ensures.counted, c.write_and_sync.ensures.counted);
      cause = search rules;
    }
