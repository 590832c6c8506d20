use Rattle.std.proofs.Common.{List, ◌++◌, subst, take}
use Rattle.std.proofs.lemmas.List.{take_all}
use Rattle.record_replay.specs.declared.line_list.NumberedLine.{NumberedLine}
use Rattle.story_commands.specs.rules.Sweeps.{AreTextsOf}
use Rattle.story_commands.proofs.SweepLemmas.Lists.{pushed_more}
use Rattle.story_commands.proofs.sweeping.texts.put_lines.Goals as goal

pub loop-line-preserved : goal.loop-line-preserved
loop-line-preserved c =
    let more = c.args.more.now in
    let i = c.loop-line.line-index in
    λ lines are. subst (AreTextsOf c.put_line.new.texts)
    (pushed_more lines more i c.line-item.result c.loop-line-test.true c.line-item.is)
    (c.in_ok-put_line.ensures c.if-not-branch.false (lines ++ take i more)
    (c.loop-line.invariant lines are))

pub returns : goal.returns
returns c =
    λ _ lines are. subst
    (λ (l : List NumberedLine). AreTextsOf c.loop-line.texts (lines ++ l))
    (take_all c.loop-line.line-index c.args.more.now c.loop-line-test.false)
    (c.loop-line.invariant lines are)
