use Rattle.std.proofs.Common.{◌≡◌, ◌≤◌, ◌-◌}
use Rattle.story_commands.specs.laws.CutRuns.{HaveAgreed}
use Rattle.story_commands.proofs.sweeping.calling.sweep_calls.Given as goal

-- the cuts of the first calls were run
abbrev pub invariant-loop-call : goal.invariant-loop-call
invariant-loop-call g l = HaveAgreed l.sweep l.call l.fronts l.now.cuts × (l.call ≤ l.calls)
    × (l.err.failed ≡ l.fn.err.failed)

abbrev pub decreases-loop-call : goal.decreases-loop-call
decreases-loop-call g l = l.calls - l.call
