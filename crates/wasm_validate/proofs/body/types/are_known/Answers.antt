use Rattle.std.proofs.Common.{sym, ◌∙◌}
use Rattle.std.proofs.lemmas.List.{at_drop_all}
use Rattle.wasm_validate.specs.Body.Known.{are_known}
use Rattle.wasm_validate.proofs.BodyLemmas.KnownTypes.{one_unknown, one_known}
use Rattle.wasm_validate.proofs.body.types.are_known.Goals as goal

pub returns-then-is_none : goal.returns-then-is_none
returns-then-is_none c =
    sym (c.loop-operand.invariant
    ∙ one_unknown c.args.operands.now c.loop-operand.operand-index c.loop-operand-test.true
    c.if-is_none.ensures)

pub loop-operand-preserved : goal.loop-operand-preserved
loop-operand-preserved c =
    c.loop-operand.invariant
    ∙ one_known c.args.operands.now c.loop-operand.operand-index c.loop-operand-test.true
    c.if-is_none.ensures

pub returns : goal.returns
returns c =
    sym (c.loop-operand.invariant
    ∙ at_drop_all are_known c.args.operands.now c.loop-operand.operand-index
    c.loop-operand-test.false)
