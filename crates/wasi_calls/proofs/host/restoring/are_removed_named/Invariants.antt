use Rattle.std.proofs.Common.{◌≡◌, ◌<◌, ℕ, true}
use Rattle.file_tree.specs.rules.Listings.{number_at}
use Rattle.wasi_calls.specs.Restoring.{is_kept}
use Rattle.wasi_calls.proofs.host.restoring.are_removed_named.Given as goal

abbrev pub invariant-loop-place : goal.invariant-loop-place
invariant-loop-place l =
    (i : ℕ) → i < l.place → is_kept l.tree l.descriptors (number_at l.tree i) ≡ true
