use Rattle.std.proofs.Common.{◌++◌, codes}
use Rattle.std.specs.Fmt.{decimal}
use Rattle.command_words.specs.FunctionNames.{lent_bytes}
use Rattle.command_words.specs.rules.FunctionNames.{name_words}
use Rattle.command_words.proofs.FloatLemmas.{prints_on}
use Rattle.command_words.proofs.verdicts.floats.print_function.Goals as goal

pub returns-clause-printed : goal.returns-clause-printed
returns-clause-printed g c =
    prints_on c.print_name.result c.args.out.now c.write.new.self c.print_name.new.out
    (codes " in function " ++ decimal c.args.number) (name_words (lent_bytes c.args.name))
    (c.in_ok-write.ensures.bytes, c.in_ok-write.ensures.steady) c.print_name.ensures.printed
