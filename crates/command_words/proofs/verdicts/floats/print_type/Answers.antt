use Rattle.std.proofs.Common.{◌++◌, codes}
use Rattle.std.specs.Fmt.{decimal}
use Rattle.command_words.specs.rules.Floats.{use_text}
use Rattle.command_words.proofs.FloatLemmas.{prints_on}
use Rattle.command_words.proofs.verdicts.floats.print_type.Goals as goal

pub returns-clause-printed : goal.returns-clause-printed
returns-clause-printed g c =
    prints_on c.print_use.result c.args.out.now c.write.new.self c.print_use.new.out
    (codes " in type " ++ decimal c.args.number) (use_text c.args.found)
    (c.in_ok-write.ensures.bytes, c.in_ok-write.ensures.steady) c.print_use.ensures.printed
