use Rattle.std.proofs.Common.{refl}
use Rattle.worker.proofs.DurableLemmas.BatchParts.{asks_failing, stops_failing}
use Rattle.worker.proofs.running_worker.RunningWorker.ask_in_batch.Goals as goal

pub returns-then-not-is_of_source-clause-holding : goal.returns-then-not-is_of_source-clause-holding
returns-then-not-is_of_source-clause-holding g c =
    asks_failing g.D.Disk.medium g.S.Source.gives c.args.self.now c.ask.new.self c.fail.new.self
    c.args.question c.in-Err.fault c.args.disk.now c.ask.new.disk c.args.source.now
    c.ask.new.source (c.is_of_source.ensures.no c.if-not-is_of_source.true)
    c.in-Err.ensures.holding

pub returns-then-not-is_of_source-clause-fault : goal.returns-then-not-is_of_source-clause-fault
returns-then-not-is_of_source-clause-fault g c =
    (c.ask.new.self, refl, c.in-Err.ensures.fault)

pub returns-then-not-is_of_source-clause-runs : goal.returns-then-not-is_of_source-clause-runs
returns-then-not-is_of_source-clause-runs g c =
    stops_failing c.args.self.now.store c.ask.new.self.store c.fail.new.self c.in-Err.fault
    (g.D.Disk.medium c.args.disk.now) (g.D.Disk.medium c.ask.new.disk) c.fail.ensures
    c.in-Err.ensures.runs
