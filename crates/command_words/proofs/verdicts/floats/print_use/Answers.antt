use Rattle.std.proofs.Common.{refl}
use Rattle.command_words.proofs.LineLemmas.Printed.{prints_nothing}
use Rattle.command_words.proofs.verdicts.floats.print_use.Goals as goal

pub returns-in-Unread-clause-printed : goal.returns-in-Unread-clause-printed
returns-in-Unread-clause-printed g c =
    rw c.in-Unread.is (prints_nothing c.args.out.now c.args.out.now refl)
