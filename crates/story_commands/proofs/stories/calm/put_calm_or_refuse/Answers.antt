use Rattle.story_commands.proofs.ScriptLemmas.Calm.{came_calm, came_uncalm}
use Rattle.story_commands.proofs.stories.calm.put_calm_or_refuse.Goals as goal

pub returns-then-branch : goal.returns-then-branch
returns-then-branch c =
    came_calm c.in_ok-put_calm.field-0 _ _ _ c.if-branch.true c.in_ok-put_calm.ensures

pub returns : goal.returns
returns c = (
  came_uncalm c.in_ok-put_calm.field-0 _ _ _ c.if-branch.false c.in_ok-put_calm.ensures,
  c.in_ok-cause.ensures,
)
