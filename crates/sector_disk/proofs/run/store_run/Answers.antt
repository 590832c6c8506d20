use Rattle.std.proofs.Common.{◌+◌, [], ◌∷◌, length, arith, rules}
use Rattle.std.proofs.lemmas.Result.{on_ok_weaker}
use Rattle.sector_disk.proofs.Moments.{leaves_synced, shows_follow, follows_stays, synced_follows}
use Rattle.sector_disk.proofs.RunLemmas.{written_holds}
use Rattle.sector_disk.proofs.CountLemmas.{counts_then}
use Rattle.sector_disk.proofs.CallLemmas.{begun_first, performed_then}
use Rattle.sector_disk.specs.rules.Calls.{rising_writes}
use Rattle.sector_disk.specs.declared.disk_call.DiskCall.TheVariants.{Sync}
use Rattle.sector_disk.proofs.run.store_run.Goals as goal

pub returns-in_err-write_run : goal.returns-in_err-write_run
returns-in_err-write_run g c =
    let old = g.D.Disk.medium c.args.disk.now in
    let mid = g.D.Disk.medium c.write_run.new.disk in
    let run = c.write_run.ensures in
    record {
      any_moment = run.any_moment;
      stored = search rules;
      holds = search rules;
      all_synced = search rules;
      counts = run.counts;
      calls = record {
        all = search rules;
        begun = begun_first (rising_writes c.args.at (length c.args.sectors.now)) (Sync
            ∷ []) old mid run.calls.begun;
      };
      cause = search rules;
      which_fault = search rules;
      asks = let asked = run.counted in omega (arith, asked);
    }

pub returns : goal.returns
returns g c =
    let old = g.D.Disk.medium c.args.disk.now in
    let mid = g.D.Disk.medium c.write_run.new.disk in
    let new = g.D.Disk.medium c.sync.new.self in
    let run = c.in_ok-write_run.ensures in
    let sync = c.sync.ensures in
    let most = old.unsynced + length c.args.sectors.now in
    let follows = shows_follow old mid _ _ run.whole in
    record {
      any_moment = leaves_synced old mid new _ run.any_moment sync.stays sync.passes;
      stored = on_ok_weaker c.sync.result
          (λ all_synced. synced_follows old mid new _ all_synced sync.stays follows)
          sync.all_synced;
      holds = on_ok_weaker c.sync.result
          (λ all_synced. written_holds _ _ _ old new (follows_stays old mid new _
          sync.stays follows)) sync.all_synced;
      all_synced = search rules;
      counts =
          let u = run.unsynced in
          let leaves = run.any_moment in
          let p = leaves.passes in
          counts_then most mid.unsynced most old mid new (omega arith)
          (omega arith) p.later run.counts sync.counts;
      calls = performed_then (rising_writes c.args.at (length c.args.sectors.now)) (Sync
          ∷ []) c.sync.result old mid new run.calls.all sync.calls;
      cause = search rules;
      which_fault = search rules;
      asks = search rules;
    }
