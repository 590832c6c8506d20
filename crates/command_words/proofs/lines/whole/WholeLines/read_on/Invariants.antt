use Rattle.std.proofs.Common.{◌≡◌, ◌+◌, ◌-◌, [], length}
use Rattle.command_words.specs.declared.lines.whole.TheConstants.{MOST_LEFT}
use Rattle.command_words.specs.rules.WholeLines.{IsGivable, ReadsBehind}
use Rattle.command_words.proofs.lines.whole.WholeLines.read_on.Given as goal

abbrev pub invariant-loop-count : goal.invariant-loop-count
invariant-loop-count g l = (l.self.lines.items ≡ []) × (l.self.given ≡ 0)
    × (l.self.leaves_rest ≡ l.initial.self.leaves_rest)
    × (IsGivable l.initial.self.rest.items [] → IsGivable l.self.rest.items [])
    × ReadsBehind (g.R.Read.remaining l.initial.self.reader)
    (g.R.Read.remaining l.self.reader) l.initial.self.rest.items l.self.rest.items

abbrev pub decreases-loop-count : goal.decreases-loop-count
decreases-loop-count g l = MOST_LEFT + 1 - length l.self.rest.items
