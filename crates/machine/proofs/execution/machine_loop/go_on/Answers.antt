use Rattle.machine.proofs.CycleLemmas.Whole.{begins, goes_on_to, pauses_now}
use Rattle.machine.proofs.execution.machine_loop.go_on.Goals as goal

pub loop-more-init : goal.loop-more-init
loop-more-init c = begins c.args.code.now c.args.state.now c.args.fuel

pub loop-more-preserved : goal.loop-more-preserved
loop-more-preserved c =
    goes_on_to c.cycle.new.state c.in-On.more c.loop-more.invariant
    (rw c.in-On.is at c.cycle.ensures.cycles)

pub returns-in-Waits : goal.returns-in-Waits
returns-in-Waits c =
    pauses_now c.cycle.new.state c.in-Waits.paused c.loop-more.invariant
    (rw c.in-Waits.is at c.cycle.ensures.cycles)
