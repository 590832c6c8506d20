use Rattle.command_words.proofs.FrontLemmas.{HasTaken}
use Rattle.command_words.proofs.printer.write_whole.Given as goal

abbrev pub invariant-loop : goal.invariant-loop
invariant-loop g l =
    HasTaken (g.W.Write.contents l.fn.out) (g.W.Write.contents l.out) l.fn.bytes l.rest
