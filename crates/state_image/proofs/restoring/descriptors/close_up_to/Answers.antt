use Rattle.std.proofs.Common.{length, ap, arith}
use Rattle.wasi_calls_rules.specs.WasiStates.{Descriptor}
use Rattle.state_image.proofs.RestoreLemmas.OpenAgain.{one_more_closed}
use Rattle.state_image.proofs.restoring.descriptors.close_up_to.Goals as goal

pub loop-preserved : goal.loop-preserved
loop-preserved c =
    one_more_closed Descriptor c.args.descriptors.now.items c.loop.descriptors.items
    c.push.new.self.items c.loop.counter
    (omega (arith, c.loop.auto.counter, ap length c.as_slice-counter.ensures.value))
    c.loop.invariant c.in_ok-push.ensures.items
