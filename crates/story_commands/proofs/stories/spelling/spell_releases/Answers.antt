use Rattle.story_commands.proofs.StoryLemmas.{next_line}
use Rattle.story_commands.proofs.stories.spelling.spell_releases.Goals as goal

pub loop-line-preserved : goal.loop-line-preserved
loop-line-preserved g c =
    next_line c.args.lines.now c.loop-line.line-index c.line-item.result
    (g.W.Write.contents c.args.out.now) (g.W.Write.contents c.loop-line.out)
    (g.W.Write.contents c.spell_line.new.out) c.loop-line-test.true c.line-item.is
    c.loop-line.invariant (rw c.as_slice.ensures at c.in_ok-spell_line.ensures)
