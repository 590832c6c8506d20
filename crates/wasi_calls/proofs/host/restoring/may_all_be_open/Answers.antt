use Rattle.std.proofs.Common.{refl, length}
use Rattle.std.proofs.lemmas.Option.{slice_get_read}
use Rattle.wasi_calls.proofs.Restored.{one_more_open, all_open}
use Rattle.wasi_calls.proofs.host.restoring.may_all_be_open.Goals as goal

pub loop-number-preserved : goal.loop-number-preserved
loop-number-preserved c =
    let ds = c.args.descriptors.now in
    let n = c.loop-number.number in
    let there = slice_get_read ds (length ds) n c.index-descriptors-number.result refl
    c.loop-number-test.true c.index-descriptors-number.is in
    let own = c.may_be_open.ensures.0 c.if-not-may_be_open.false in
    one_more_open c.args.tree.now ds n c.index-descriptors-number.result there own
    c.loop-number.invariant

pub returns : goal.returns
returns c =
    let all = all_open c.args.tree.now c.args.descriptors.now c.loop-number.number
    c.loop-number-test.false c.loop-number.invariant in
    (λ _. all, λ _. refl)
