use Rattle.std.proofs.Common.{◌≡◌, ◌++◌, length}
use Rattle.std.specs.Prelude.{option_map}
use Rattle.story_commands.specs.rules.Scripts.{fronts_between}
use Rattle.story_commands.proofs.stories.keywords.read_fronts.Given as goal

abbrev pub invariant-loop-front : goal.invariant-loop-front
invariant-loop-front l = option_map (λ more. l.fronts ++ more)
    (fronts_between l.separator l.rest) ≡ fronts_between l.separator l.fn.text

abbrev pub decreases-loop-front : goal.decreases-loop-front
decreases-loop-front l = length l.rest
