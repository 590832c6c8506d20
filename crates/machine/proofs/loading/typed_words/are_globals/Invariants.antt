use Rattle.std.specs.Prelude.{map}
use Rattle.wasm_rules.specs.Types.{value_type_of}
use Rattle.machine.proofs.LoadingLemmas.Words.{FromHere}
use Rattle.machine.proofs.loading.typed_words.are_globals.Given as goal

abbrev pub invariant-loop-place : goal.invariant-loop-place
invariant-loop-place l = FromHere (map value_type_of l.types) l.words l.place
