use Rattle.machine_slots.proofs.ZeroLemmas.{four_zeros}
use Rattle.std.proofs.Common.{arith}
use Rattle.machine_slots.proofs.slots.put_zeros.Goals as goal

pub loop-place-init : goal.loop-place-init
loop-place-init c =
    let a = c.if-count-eq0.false in let b = c.if-count-eq1.false in
    let d = c.if-count-eq2.false in let e = c.if-count-eq3.false in
    four_zeros c.args.words.now (omega (arith, a, b, d, e))
