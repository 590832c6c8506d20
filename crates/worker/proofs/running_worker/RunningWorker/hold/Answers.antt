use Rattle.worker.proofs.DurableLemmas.Queueing.{holds_so, front_by, all_held}
use Rattle.worker.proofs.running_worker.RunningWorker.hold.Goals as goal

pub returns-clause-held : goal.returns-clause-held
returns-clause-held c = λ so.
    holds_so c.args.queue.now.most c.args.self.now c.release_waiting.new.process
    c.args.queue.now.lines c.release_waiting.new.outlet
    (c.may_hold.ensures.some c.if-not-may_hold.false)
    (c.may_hold.ensures.unended c.if-not-may_hold.false)
    (c.may_hold.ensures.few c.if-not-may_hold.false)
    (all_held c.args.self.now.process c.release_waiting.new.process c.args.queue.now.lines
    c.release_waiting.new.outlet c.release_waiting.result c.release_waiting.ensures.all
    c.release_waiting.ensures.some c.is_ok.result c.is_ok.ensures.value so)

pub returns-clause-front : goal.returns-clause-front
returns-clause-front c =
    front_by c.args.self.now.process c.release_waiting.new.process c.args.queue.now.lines
    c.release_waiting.new.outlet c.release_waiting.result c.release_waiting.ensures.all
    c.release_waiting.ensures.some
