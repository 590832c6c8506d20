use Rattle.std.proofs.Common.{sym, arith, ◌∙◌}
use Rattle.file_tree.proofs.StoreLemmas.Numbers.{place_at_cut, nowhere_at_cut, nowhere_at_end}
use Rattle.file_tree.proofs.lookup.node_index.Goals as goal

pub returns-then-place-len-clause-nowhere : goal.returns-then-place-len-clause-nowhere
returns-then-place-len-clause-nowhere c =
    nowhere_at_end c.args.number c.args.nodes.now c.count_below-place.result
    c.count_below-place.ensures.cut (omega (arith, c.if-place-len.true, c.len.ensures.count))

pub returns-then-get-number-clause-there : goal.returns-then-get-number-clause-there
returns-then-get-number-clause-there c =
    let n = c.get.result.now in
    place_at_cut c.args.number c.args.nodes.now c.count_below-place.result n (omega (
      arith,
      c.if-place-len.false,
      c.len.ensures.count,
    ))
    c.count_below-place.ensures.cut (sym c.get.ensures.number
    ∙ c.if-get-number.true)

pub returns-clause-nowhere : goal.returns-clause-nowhere
returns-clause-nowhere c =
    let n = c.get.result.now in
    nowhere_at_cut c.args.number c.args.nodes.now c.count_below-place.result n
    c.count_below-place.ensures.rising
    c.count_below-place.ensures.cut (λ lt e.
    c.if-get-number.false (c.get.ensures.number ∙ e))
