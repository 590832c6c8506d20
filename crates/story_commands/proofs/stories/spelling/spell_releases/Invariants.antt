use Rattle.std.proofs.Common.{take}
use Rattle.std.specs.Io.KnownBytes.{Appends}
use Rattle.story_commands.specs.rules.Stories.{releases_text}
use Rattle.story_commands.proofs.stories.spelling.spell_releases.Given as goal

-- the first lines are spelled
abbrev pub invariant-loop-line : goal.invariant-loop-line
invariant-loop-line g l = Appends (g.W.Write.contents l.fn.out) (g.W.Write.contents l.out)
    (releases_text (take l.line-index l.lines))
