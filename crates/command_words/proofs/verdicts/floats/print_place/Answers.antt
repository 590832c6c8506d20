use Rattle.std.proofs.Common.{refl}
use Rattle.command_words.proofs.LineLemmas.Printed.{prints_nothing}
use Rattle.command_words.proofs.verdicts.floats.print_place.Goals as goal

pub returns-in-None-clause-printed : goal.returns-in-None-clause-printed
returns-in-None-clause-printed g c =
    rw c.in-None.is (prints_nothing c.args.out.now c.args.out.now refl)
