use Rattle.std.specs.Prelude.{take}
use Rattle.machine.proofs.LoadingLemmas.Words.{FromHere}
use Rattle.machine.proofs.loading.typed_words.are_operands.Given as goal

abbrev pub invariant-loop-place : goal.invariant-loop-place
invariant-loop-place l = FromHere (take l.count l.types) l.words l.place
