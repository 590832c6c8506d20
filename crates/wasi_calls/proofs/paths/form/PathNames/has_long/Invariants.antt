use Rattle.std.proofs.Common.{◌≡◌, length}
use Rattle.std.specs.Prelude.{nat_le}
use Rattle.std.specs.List.{list_all}
use Rattle.file_tree.specs.rules.Files.{Name}
use Rattle.file_tree.specs.declared.limits.TheConstants.{NAME_BYTES}
use Rattle.wasi_calls.proofs.paths.form.PathNames.has_long.Given as goal

abbrev pub invariant-loop-name : goal.invariant-loop-name
invariant-loop-name l =
    list_all (λ (name : Name). nat_le (length name) NAME_BYTES) l.names
    ≡ list_all (λ (name : Name). nat_le (length name) NAME_BYTES) l.initial.names

abbrev pub decreases-loop-name : goal.decreases-loop-name
decreases-loop-name l = length l.names
