use Rattle.std.proofs.Common.{arith}
use Rattle.disk_commands.proofs.LivingLemmas.{within_breaks, within_rests, within_broken}
use Rattle.disk_commands.proofs.LivingLemmas.{within_more, none_taken, within_fewer}
use Rattle.disk_commands.proofs.on_disk.living.round.Goals as goal
use Rattle.disk_commands.proofs.on_disk.living.round.Goals.{then-taken-every-via-then-taken-every}
use Rattle.disk_commands.proofs.on_disk.living.round.Goals.{
  then-taken-every-via-else-taken-every+then-not-is_spent,
}

pub loop-now-init : goal.loop-now-init
loop-now-init g c =
    none_taken g.D.Disk.medium g.S.Source.gives g.O.Outlet.takes _ _ _ c.get-every.ensures.nonzero
    c.requires

pub returns-in-Err-clause-failed : goal.returns-in-Err-clause-failed
returns-in-Err-clause-failed g c =
    within_breaks g.D.Disk.medium g.S.Source.gives g.O.Outlet.takes _ _ _ _ _ c.loop-now.invariant
    _ c.get-every.ensures.value c.in-Err.fault _ c.in-Err.ensures.failed

pub returns-then-taken-every-clause-done : goal.returns-then-taken-every-clause-done
returns-then-taken-every-clause-done g c =
    rw c.rest_on.ensures.quiet (within_rests g.D.Disk.medium g.S.Source.gives g.O.Outlet.takes _ _ _
    _ _ c.loop-now.invariant _ c.get-every.ensures.value c.in-Ok.now _ _ _ _ c.in-Ok.ensures.done
    c.rest_on.result _ _ c.rest_on.ensures.rested
    (λ spent. elim c.then-taken-every.branch [
      | then-taken-every-via-then-taken-every w ↦ w.if-taken-every.true
      | then-taken-every-via-else-taken-every+then-not-is_spent w ↦
          let told = w.is_spent.ensures.1 spent in let other = w.if-not-is_spent.true in absurd (cc)
    ]))

pub returns-then-taken-every-clause-failed : goal.returns-then-taken-every-clause-failed
returns-then-taken-every-clause-failed g c =
    rw c.rest_on.ensures.quiet (within_broken g.D.Disk.medium g.S.Source.gives g.O.Outlet.takes _ _
    _ _ _ c.loop-now.invariant _ c.get-every.ensures.value c.in-Ok.now _ _ _ _
    c.in-Ok.ensures.done c.rest_on.result _ _ c.rest_on.ensures.rested)

pub loop-now-preserved : goal.loop-now-preserved
loop-now-preserved g c =
    let before = c.loop-now.invariant.fewer in
    let other = c.if-taken-every.false in
    let spent = c.is_spent.ensures.0 c.if-not-is_spent.false in
    within_more g.D.Disk.medium g.S.Source.gives g.O.Outlet.takes _ _ _ _ _ c.loop-now.invariant
    c.in-Ok.now _ c.in-Ok.ensures.done spent (omega (arith, before, other))
    (c.in-Ok.ensures.fewer spent)

pub returns-then-taken-every-clause-fewer : goal.returns-then-taken-every-clause-fewer
returns-then-taken-every-clause-fewer g c =
    within_fewer g.D.Disk.medium g.S.Source.gives g.O.Outlet.takes _ _ _ _ _ c.loop-now.invariant
    _ c.get-every.ensures.value c.in-Ok.now _ _ _ _ c.in-Ok.ensures.done c.rest_on.result _ _
    c.rest_on.ensures.rested c.in-Ok.ensures.fewer
