use Rattle.std.proofs.Common.{◌++◌}
use Rattle.command_words.specs.FunctionNames.{lent_bytes}
use Rattle.command_words.specs.rules.Floats.{float_hint, place_text}
use Rattle.command_words.proofs.FloatLemmas.{prints_three}
use Rattle.command_words.proofs.verdicts.floats.print_words.Goals as goal

pub returns-clause-printed : goal.returns-clause-printed
returns-clause-printed g c =
    prints_three c.writeln.result c.args.out.now c.write.new.self c.print_place.new.out
    c.writeln.new.self (c.args.words.value_type.now ++ c.args.words.operation.now)
    (place_text c.args.place (lent_bytes c.args.name) c.args.found) float_hint
    (c.in_ok-write.ensures.bytes, c.in_ok-write.ensures.steady)
    c.in_ok-print_place.ensures.printed c.writeln.ensures.bytes c.writeln.ensures.steady
