use Rattle.std.proofs.Common.{◌≡◌, slice_get, Some, map}
use Rattle.state_image.specs.restoring.SavedNodes.{lent_whole}
use Rattle.state_image.specs.restoring.Hanging.{HangsUpTo}
use Rattle.state_image.proofs.restoring.hanging.hang_entries.Given as goal

abbrev pub invariant-loop-entry : goal.invariant-loop-entry
invariant-loop-entry l =
    HangsUpTo (map lent_whole l.fn.nodes) l.tree l.waiting.items l.fn.place l.entry-index
    × (l.tree.next ≡ l.fn.tree.next) × (slice_get l.waiting.items l.fn.place ≡ Some l.directory)
