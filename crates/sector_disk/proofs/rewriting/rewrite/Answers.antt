use Rattle.std.proofs.Common.{[], ◌∷◌, rules}
use Rattle.sector_disk.proofs.CallLemmas.{begun_first, performed_then}
use Rattle.sector_disk.specs.rules.Calls.{rising_writes}
use Rattle.sector_disk.specs.declared.disk_call.DiskCall.TheVariants.{Sync}
use Rattle.sector_disk.proofs.rewriting.rewrite.Goals as goal

pub returns-in_err-write_all_back-clause-calls : goal.returns-in_err-write_all_back-clause-calls
returns-in_err-write_all_back-clause-calls g c =
    let old = g.D.Disk.medium c.args.disk.now in
    let mid = g.D.Disk.medium c.write_all_back.new.disk in
    let made = c.write_all_back.ensures.performed in
    record {
      all = search rules;
      begun = begun_first (rising_writes 0 old.sectors) (Sync ∷ []) old mid made.begun;
    }

pub returns-clause-calls : goal.returns-clause-calls
returns-clause-calls g c =
    let old = g.D.Disk.medium c.args.disk.now in
    let mid = g.D.Disk.medium c.write_all_back.new.disk in
    let new = g.D.Disk.medium c.sync.new.self in
    let made = c.in_ok-write_all_back.ensures.performed in
    performed_then (rising_writes 0 old.sectors) (Sync ∷ []) c.sync.result old mid new made.all
    c.sync.ensures.calls
