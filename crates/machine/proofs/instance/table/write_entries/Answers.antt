use Rattle.std.proofs.Common.{◌+◌, ◌<◌, ◌∙◌, length, get_or, arith}
use Rattle.std.proofs.lemmas.List.{get_or_default}
use Rattle.machine.proofs.InstanceLemmas.Entries.{put_next}
use Rattle.machine.proofs.instance.table.write_entries.Goals as goal

pub loop-i-preserved : goal.loop-i-preserved
loop-i-preserved c =
    let i = c.loop-i.i in
    let functions = c.args.functions.now in
    let f = get_or functions i 0 in
    let within : c.args.from + i < length c.loop-i.table = omega arith in
    put_next c.loop-i.table functions i c.args.from c.loop-i-test.true
    (get_or_default functions i 0 f c.loop-i-test.true) within ∙ c.loop-i.invariant
