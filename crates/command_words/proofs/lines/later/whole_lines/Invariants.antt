use Rattle.std.proofs.Common.{◌≢◌, ◌≤◌, All, length, drop}
use Rattle.command_words.proofs.lines.later.whole_lines.Given as goal

abbrev pub invariant-loop-end : goal.invariant-loop-end
invariant-loop-end l = (l.end ≤ length l.bytes) × All (λ x. x ≢ 10) (drop l.end l.bytes)

abbrev pub decreases-loop-end : goal.decreases-loop-end
decreases-loop-end l = l.end
