use Rattle.std.proofs.Common.{◌≡◌, take}
use Rattle.story_commands.proofs.sweeping.planning.copy_lives.Given as goal

abbrev pub invariant-loop-life : goal.invariant-loop-life
invariant-loop-life l = l.copies ≡ take l.life-index l.lives
