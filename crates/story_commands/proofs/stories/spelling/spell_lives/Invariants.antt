use Rattle.std.proofs.Common.{◌≡◌, take}
use Rattle.std.specs.Io.KnownBytes.{Appends}
use Rattle.story_commands.specs.rules.Stories.{story_text}
use Rattle.story_commands.proofs.stories.spelling.spell_lives.Given as goal

-- the first lives are spelled
abbrev pub invariant-loop-report : goal.invariant-loop-report
invariant-loop-report g l = (l.number ≡ l.report-index)
    × Appends (g.W.Write.contents l.fn.out) (g.W.Write.contents l.out)
    (story_text 1 (take l.report-index l.reports))
