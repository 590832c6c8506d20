use Rattle.std.proofs.Common.{◌≡◌, drop}
use Rattle.std.specs.List.{list_any}
use Rattle.wasi_calls_rules.specs.Small.{names}
use Rattle.wasi_calls.proofs.host.descriptors.is_named.Given as goal

abbrev pub invariant-loop-descriptor : goal.invariant-loop-descriptor
invariant-loop-descriptor l =
    list_any (names l.node) (drop l.descriptor-index l.descriptors)
    ≡ list_any (names l.node) l.descriptors
