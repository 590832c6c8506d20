use Rattle.std.proofs.Common.{◌≡◌, ◌+◌, drop, length}
use Rattle.wasi_calls_rules.specs.Small.{with_zeros}
use Rattle.wasi_calls.proofs.texts.size_of.Given as goal

abbrev pub invariant-loop-text : goal.invariant-loop-text
invariant-loop-text l =
    l.size + length (with_zeros (drop l.text-index l.texts)) ≡ length (with_zeros l.texts)
