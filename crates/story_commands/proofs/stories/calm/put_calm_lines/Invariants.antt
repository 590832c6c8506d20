use Rattle.std.proofs.Common.{length}
use Rattle.story_commands.specs.laws.Drafts.{IsCalmDraft}
use Rattle.story_commands.proofs.ScriptLemmas.Reading.{HasPut}
use Rattle.story_commands.proofs.stories.calm.put_calm_lines.Given as goal

abbrev pub invariant-loop-rest : goal.invariant-loop-rest
invariant-loop-rest l = HasPut l.fn.text l.fn.draft l.number l.rest l.draft
    × (IsCalmDraft l.fn.draft → IsCalmDraft l.draft)

abbrev pub decreases-loop-rest : goal.decreases-loop-rest
decreases-loop-rest l = length l.rest
