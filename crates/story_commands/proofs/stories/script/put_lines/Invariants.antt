use Rattle.std.proofs.Common.{length}
use Rattle.story_commands.proofs.ScriptLemmas.Reading.{HasPut}
use Rattle.story_commands.proofs.stories.script.put_lines.Given as goal

abbrev pub invariant-loop-rest : goal.invariant-loop-rest
invariant-loop-rest l = HasPut l.fn.text l.fn.draft l.number l.rest l.draft

abbrev pub decreases-loop-rest : goal.decreases-loop-rest
decreases-loop-rest l = length l.rest
