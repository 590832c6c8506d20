use Rattle.std.proofs.Common.{◌-◌, ◌≤◌, ◌∷◌, length}
use Rattle.file_tree.specs.Store.Cuts.{IsCut}
use Rattle.file_tree.specs.Store.Named.{KeyUpTo, KeyBehind}
use Rattle.file_tree.proofs.StoreLemmas.Cuts.{Whatever}
use Rattle.file_tree.proofs.store.named.count_up_to.Given as goal

abbrev pub invariant-loop-low : goal.invariant-loop-low
invariant-loop-low l =
    (l.low ≤ l.high) × (l.high ≤ length l.keys)
    × IsCut (KeyUpTo (l.directory ∷ l.name) l.slab) Whatever l.keys l.low
    × IsCut Whatever (KeyBehind (l.directory ∷ l.name) l.slab) l.keys l.high

abbrev pub decreases-loop-low : goal.decreases-loop-low
decreases-loop-low l = l.high - l.low
