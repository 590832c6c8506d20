use Rattle.std.proofs.Common.{◌≡◌}
use Rattle.record_replay.proofs.Ending.{measure}
use Rattle.worker.proofs.DurableLemmas.InBatch.{InBatch}
use Rattle.worker.proofs.running_worker.RunningWorker.work_in_batch.Given as goal

abbrev pub invariant-loop-self : goal.invariant-loop-self
invariant-loop-self g l =
    InBatch g.D.Disk.medium g.S.Source.gives g.O.Outlet.takes l.fn.self l.self l.fn.watched.fuel
    l.fn.queue.most l.first l.queue.lines l.fn.disk l.disk l.fn.source l.source l.fn.outlet l.outlet
    × (l.queue.most ≡ l.fn.queue.most)

abbrev pub decreases-loop-self : goal.decreases-loop-self
decreases-loop-self g l = measure l.fn.watched.fuel l.first l.self.process
