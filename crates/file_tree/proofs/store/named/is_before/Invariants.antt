use Rattle.std.proofs.Common.{◌≡◌, ◌≤◌, drop, length}
use Rattle.file_tree.specs.rules.Files.{is_before}
use Rattle.file_tree.proofs.store.named.is_before.Given as goal

abbrev pub invariant-loop-index : goal.invariant-loop-index
invariant-loop-index l = (l.index ≤ length l.other)
    × (is_before (drop l.index l.name) (drop l.index l.other) ≡ is_before l.name l.other)
