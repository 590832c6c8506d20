use Rattle.std.proofs.Common.{◌≡◌, take}
use Rattle.std.specs.List.{flat_map}
use Rattle.story_commands.specs.rules.Sweeps.{acts_of}
use Rattle.story_commands.proofs.sweeping.planning.acts_of.Given as goal

abbrev pub invariant-loop-life : goal.invariant-loop-life
invariant-loop-life l = l.acts.items ≡ flat_map acts_of (take l.life-index l.lives)
