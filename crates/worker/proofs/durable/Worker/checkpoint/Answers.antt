use Rattle.worker.proofs.RefusedLemmas.{had_failed, checkpoint_refused}
use Rattle.worker.proofs.durable.Worker.checkpoint.Goals as goal

pub returns-in-Err-clause-saves : goal.returns-in-Err-clause-saves
returns-in-Err-clause-saves g c = λ room.
    let failed = had_failed c.args.self.now (g.D.Disk.medium c.args.disk.now) room
    c.in-Err.ensures.unfit in
    let refused = c.in-Err.ensures.refused failed in
    rw (refused.0, refused.1) (checkpoint_refused c.args.self.now failed
    (g.D.Disk.medium c.args.disk.now) room)

pub checkpoint_within-requires-clause-works : goal.checkpoint_within-requires-clause-works
checkpoint_within-requires-clause-works g c =
    rw c.in_default.ensures.fit.0 c.in_default.ensures.fit.1

pub checkpoint_within-requires-clause-sectors : goal.checkpoint_within-requires-clause-sectors
checkpoint_within-requires-clause-sectors g c =
    rw c.in_default.ensures.fit.0 c.in_default.ensures.fit.2

pub returns-clause-saves : goal.returns-clause-saves
returns-clause-saves g c = λ room. rw c.in_default.ensures.fit.0 at c.checkpoint_within.ensures
