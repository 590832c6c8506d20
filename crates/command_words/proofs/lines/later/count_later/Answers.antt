use Rattle.command_words.proofs.LineLemmas.Later.{all_counted, counted_later}
use Rattle.command_words.proofs.PieceLemmas.{nothing_left}
use Rattle.command_words.proofs.lines.later.count_later.Goals as goal

pub loop-rest-preserved-then-is_later : goal.loop-rest-preserved-then-is_later
loop-rest-preserved-then-is_later c =
    counted_later c.args.limit c.args.taken c.args.text.now c.loop-rest.count c.loop-rest.rest.now
    c.cut_line.result.0.now c.cut_line.result.1.now c.loop-rest.invariant c.cut_line.ensures.line
    c.cut_line.ensures.shorter (c.is_later.ensures.later c.if-is_later.true)

pub returns : goal.returns
returns c =
    all_counted c.args.limit c.args.taken c.args.text.now c.loop-rest.count c.loop-rest.rest.now
    c.loop-rest.invariant
    (nothing_left c.is_empty.result c.loop-rest.rest.now c.is_empty.ensures c.loop-rest-test.false)
