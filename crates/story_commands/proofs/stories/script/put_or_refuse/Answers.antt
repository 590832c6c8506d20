use Rattle.story_commands.proofs.ScriptLemmas.Reading.{came, came_none}
use Rattle.story_commands.proofs.stories.script.put_or_refuse.Goals as goal

pub returns-then-branch : goal.returns-then-branch
returns-then-branch c =
    came c.in_ok-put_text.field-0 _ _ c.if-branch.true c.in_ok-put_text.ensures

pub returns : goal.returns
returns c = (
  came_none c.in_ok-put_text.field-0 _ _ c.if-branch.false c.in_ok-put_text.ensures,
  c.in_ok-cause.ensures,
)
