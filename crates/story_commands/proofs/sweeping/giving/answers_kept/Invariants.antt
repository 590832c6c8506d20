use Rattle.std.proofs.Common.{◌≡◌, ◌++◌, drop}
use Rattle.story_commands.specs.rules.Sweeps.{answers_kept}
use Rattle.story_commands.proofs.sweeping.giving.answers_kept.Given as goal

-- those so far, and those that are left, are all
abbrev pub invariant-loop-life : goal.invariant-loop-life
invariant-loop-life l = l.list ++ answers_kept (drop l.life-index l.lives) l.later
    ≡ answers_kept l.fn.lives l.fn.told
