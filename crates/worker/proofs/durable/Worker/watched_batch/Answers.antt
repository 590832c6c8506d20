use Rattle.std.proofs.Common.{◌≡◌}
use Rattle.record_replay.specs.declared.slices.fault.SliceFault.TheVariants as slice
use Rattle.worker.specs.declared.fault.WorkFault.TheVariants.{Work}
use Rattle.worker.proofs.RefusedLemmas.{had_failed, batch_refused}
use Rattle.worker.proofs.durable.Worker.watched_batch.Goals as goal

pub returns-in-Err-clause-runs : goal.returns-in-Err-clause-runs
returns-in-Err-clause-runs g c = λ room.
    let failed = had_failed c.args.self.now (g.D.Disk.medium c.args.disk.now) room
    c.in-Err.ensures.unfit in
    let refused = c.in-Err.ensures.refused failed in
    let said = refused.0 in
    let is_failed : c.in-Err.fault ≡ Work slice.Failed = cc in
    rw (is_failed, refused.1) (batch_refused g.D.Disk.medium g.S.Source.gives g.O.Outlet.takes
    c.args.self.now failed c.args.disk.now c.args.source.now c.args.outlet.now room
    c.args.watched.fuel c.args.most)

pub batch_within-requires-clause-works : goal.batch_within-requires-clause-works
batch_within-requires-clause-works g c = rw c.in_default.ensures.fit.0 c.in_default.ensures.fit.1

pub batch_within-requires-clause-sectors : goal.batch_within-requires-clause-sectors
batch_within-requires-clause-sectors g c = rw c.in_default.ensures.fit.0 c.in_default.ensures.fit.2

pub returns-clause-runs : goal.returns-clause-runs
returns-clause-runs g c = λ room. rw c.in_default.ensures.fit.0 at c.batch_within.ensures
