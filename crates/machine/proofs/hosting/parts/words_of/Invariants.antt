use Rattle.std.proofs.Common.{◌≡◌, ◌++◌, drop, map}
use Rattle.wasm_rules.specs.Types.{number_in}
use Rattle.machine.proofs.hosting.parts.words_of.Given as goal

abbrev pub invariant-loop-value : goal.invariant-loop-value
invariant-loop-value l = l.words.items ++ map number_in (drop l.value-index l.values)
    ≡ map number_in l.values
