use Rattle.std.proofs.Common.{◌≡◌, ◌≤◌, ◌-◌, length, take}
use Rattle.story_commands.proofs.sweeping.texts.begin_with.Given as goal

-- the first texts are the same
abbrev pub invariant-loop-at : goal.invariant-loop-at
invariant-loop-at l = (l.at ≤ length l.front) × (take l.at l.texts ≡ take l.at l.front)

abbrev pub decreases-loop-at : goal.decreases-loop-at
decreases-loop-at l = length l.front - l.at
