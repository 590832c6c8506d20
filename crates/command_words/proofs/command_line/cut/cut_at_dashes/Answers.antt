use Rattle.std.proofs.Common.{sym, ◌∙◌}
use Rattle.command_words.proofs.WordLemmas.Cuts.{goes_on, cuts_front, cuts_back}
use Rattle.command_words.proofs.command_line.cut.cut_at_dashes.Goals as goal

pub returns-then-is_dashes-clause-front : goal.returns-then-is_dashes-clause-front
returns-then-is_dashes-clause-front g c =
    cuts_front g.S.AsStr.text c.args.words.now c.loop-at.at c.index-words-at.result
    c.loop-at.invariant c.loop-at-test.true c.index-words-at.is
    (sym c.is_dashes.ensures ∙ c.if-is_dashes.true)

pub returns-then-is_dashes-clause-back : goal.returns-then-is_dashes-clause-back
returns-then-is_dashes-clause-back g c =
    cuts_back g.S.AsStr.text c.args.words.now c.loop-at.at c.index-words-at.result
    c.loop-at.invariant c.loop-at-test.true c.index-words-at.is
    (sym c.is_dashes.ensures ∙ c.if-is_dashes.true)

pub loop-at-preserved : goal.loop-at-preserved
loop-at-preserved g c =
    goes_on g.S.AsStr.text c.args.words.now c.loop-at.at c.index-words-at.result
    c.loop-at.invariant c.loop-at-test.true c.index-words-at.is
    (sym c.is_dashes.ensures ∙ c.if-is_dashes.false)
