use Rattle.std.proofs.Common.{arith}
use Rattle.std.specs.Int.NonZero.{non_zero_u64_get}
use Rattle.worker.specs.rules.LifeWords.{Batch, Slice}
use Rattle.disk_commands.proofs.LivingLemmas.{once_fewer}
use Rattle.disk_commands.proofs.PaceLemmas.{act_is_batch, act_is_slice}
use Rattle.disk_commands.proofs.on_disk.living.go_once.Goals as goal

pub returns-then-most-gt1-clause-done : goal.returns-then-most-gt1-clause-done
returns-then-most-gt1-clause-done g c =
    let most = c.get-most.ensures.value in
    let fuel = c.get.ensures.value in
    let several = c.if-most-gt1.true in
    rw (act_is_batch (non_zero_u64_get c.args.pace.fuel) (non_zero_u64_get c.args.pace.batch)
    (omega (arith, most, several))) (rw (most, fuel) at
    c.batch_once.ensures.done)

pub returns-then-most-gt1-clause-failed : goal.returns-then-most-gt1-clause-failed
returns-then-most-gt1-clause-failed g c =
    let most = c.get-most.ensures.value in
    let fuel = c.get.ensures.value in
    let several = c.if-most-gt1.true in
    rw (act_is_batch (non_zero_u64_get c.args.pace.fuel) (non_zero_u64_get c.args.pace.batch)
    (omega (arith, most, several))) (rw (most, fuel) at
    c.batch_once.ensures.failed)

pub returns-clause-done : goal.returns-clause-done
returns-clause-done g c =
    let most = c.get-most.ensures.value in
    let fuel = c.get-2.ensures.value in
    let one = c.if-most-gt1.false in
    rw (act_is_slice (non_zero_u64_get c.args.pace.fuel) (non_zero_u64_get c.args.pace.batch)
    (omega (arith, most, one))) (rw fuel at c.slice_once.ensures.done)

pub returns-clause-failed : goal.returns-clause-failed
returns-clause-failed g c =
    let most = c.get-most.ensures.value in
    let fuel = c.get-2.ensures.value in
    let one = c.if-most-gt1.false in
    rw (act_is_slice (non_zero_u64_get c.args.pace.fuel) (non_zero_u64_get c.args.pace.batch)
    (omega (arith, most, one))) (rw fuel at c.slice_once.ensures.failed)

pub returns-then-most-gt1-clause-fewer : goal.returns-then-most-gt1-clause-fewer
returns-then-most-gt1-clause-fewer g c =
    once_fewer g.D.Disk.medium g.S.Source.gives g.O.Outlet.takes
    (Batch c.get.result c.get-most.result) _ _ c.batch_once.result c.get.ensures.nonzero
    c.batch_once.ensures.done

pub returns-clause-fewer : goal.returns-clause-fewer
returns-clause-fewer g c =
    once_fewer g.D.Disk.medium g.S.Source.gives g.O.Outlet.takes (Slice c.get-2.result) _ _
    c.slice_once.result c.get-2.ensures.nonzero c.slice_once.ensures.done
