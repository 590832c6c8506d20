use Rattle.std.proofs.Common.{◌-◌, ◌≤◌, length}
use Rattle.file_tree.specs.Store.Cuts.{IsCut}
use Rattle.file_tree.specs.Store.Kept.{HasLower, HasNoLower}
use Rattle.file_tree.proofs.StoreLemmas.Cuts.{Whatever}
use Rattle.file_tree.proofs.lookup.count_below.Given as goal

abbrev pub invariant-loop-low : goal.invariant-loop-low
invariant-loop-low l =
    (l.low ≤ l.high) × (l.high ≤ length l.nodes)
    × IsCut (HasLower l.number) Whatever l.nodes l.low
    × IsCut Whatever (HasNoLower l.number) l.nodes l.high

abbrev pub decreases-loop-low : goal.decreases-loop-low
decreases-loop-low l = l.high - l.low
