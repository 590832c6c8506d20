use Rattle.worker.proofs.DurableLemmas.InVain.{not_both}
use Rattle.worker.proofs.MigrationLemmas.{nothing_migrates}
use Rattle.worker.proofs.RefusedLemmas.{had_failed, upgrade_refused}
use Rattle.worker.proofs.durable.Worker.upgrade.Goals as goal

pub returns-in-Err-clause-upgrades : goal.returns-in-Err-clause-upgrades
returns-in-Err-clause-upgrades g c = λ room.
    let failed = had_failed c.args.self.now (g.D.Disk.medium c.args.disk.now) room
    c.in-Err.ensures.unfit in
    let refused = c.in-Err.ensures.refused failed in
    rw (refused.0, refused.1) (upgrade_refused c.args.self.now failed
    (g.D.Disk.medium c.args.disk.now) room)

pub returns-in-Err-clause-migrates : goal.returns-in-Err-clause-migrates
returns-in-Err-clause-migrates g c =
    nothing_migrates g.D.Disk.medium c.args.self.now c.args.disk.now

pub returns-in-Err-clause-in_the_way : goal.returns-in-Err-clause-in_the_way
returns-in-Err-clause-in_the_way g c = λ room why works is.
    absurd (not_both c.args.self.now.has_failed (had_failed c.args.self.now
    (g.D.Disk.medium c.args.disk.now) room c.in-Err.ensures.unfit) works)

pub upgrade_within-requires-clause-works : goal.upgrade_within-requires-clause-works
upgrade_within-requires-clause-works g c =
    rw c.in_default.ensures.fit.0 c.in_default.ensures.fit.1

pub upgrade_within-requires-clause-sectors : goal.upgrade_within-requires-clause-sectors
upgrade_within-requires-clause-sectors g c =
    rw c.in_default.ensures.fit.0 c.in_default.ensures.fit.2

pub returns-clause-upgrades : goal.returns-clause-upgrades
returns-clause-upgrades g c = λ room.
    rw c.in_default.ensures.fit.0 at c.upgrade_within.ensures.upgrades

pub returns-clause-migrates : goal.returns-clause-migrates
returns-clause-migrates g c = rw c.in_default.ensures.fit.0 at c.upgrade_within.ensures.migrates

pub returns-clause-in_the_way : goal.returns-clause-in_the_way
returns-clause-in_the_way g c = λ room.
    rw c.in_default.ensures.fit.0 at c.upgrade_within.ensures.in_the_way
