use Rattle.std.proofs.Common.{◌++◌, codes}
use Rattle.std.specs.Fmt.{decimal}
use Rattle.wasm_places.specs.rules.Uses.{names_in}
use Rattle.command_words.specs.rules.Floats.{names_text}
use Rattle.command_words.proofs.FloatLemmas.{prints_on}
use Rattle.command_words.proofs.verdicts.floats.print_first.Goals as goal

pub returns-clause-printed : goal.returns-clause-printed
returns-clause-printed g c =
    prints_on c.print_names.result c.args.out.now c.write.new.self c.print_names.new.out
    (codes " of function " ++ decimal c.args.first.number)
    (names_text (names_in c.args.first.names))
    (c.in_ok-write.ensures.bytes, c.in_ok-write.ensures.steady) c.print_names.ensures.printed
