use Rattle.machine.proofs.LoadingLemmas.Words.{FromHere}
use Rattle.machine.proofs.loading.typed_words.are_of.Given as goal

abbrev pub invariant-loop-place : goal.invariant-loop-place
invariant-loop-place l = FromHere l.types l.words l.place
