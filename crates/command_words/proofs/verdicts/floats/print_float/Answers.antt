use Rattle.command_words.specs.FunctionNames.{lent_bytes}
use Rattle.command_words.proofs.FloatLemmas.{float_told}
use Rattle.command_words.proofs.verdicts.floats.print_float.Goals as goal

pub returns-in-Some-clause-told : goal.returns-in-Some-clause-told
returns-in-Some-clause-told g c =
    float_told c.print_words.result c.args.wasm.now c.args.at c.in-Some.words.value_type.now
    c.in-Some.words.operation.now c.place_of-place.result (lent_bytes c.name_at-name.result)
    c.use_at.result c.args.out.now c.print_words.new.out c.in-Some.ensures
    c.place_of-place.ensures c.name_at-name.ensures c.use_at.ensures
    c.print_words.ensures.printed
