use Rattle.command_words.specs.rules.Floats.{TellsOfFloat}
use Rattle.command_words.proofs.ListingLemmas.{told_outside, untold_inside}
use Rattle.command_words.proofs.verdicts.telling.print_float_outside.Goals as goal

pub returns-in-Some-clause-told : goal.returns-in-Some-clause-told
returns-in-Some-clause-told g c =
    untold_inside c.args.wasm.now c.args.at c.in-Some.field-0 c.place_of.result
    (TellsOfFloat c.args.wasm.now c.args.at c.args.out.now c.args.out.now) c.args.out.now
    c.place_of.ensures c.in-Some.ensures

pub returns-in-None-clause-told : goal.returns-in-None-clause-told
returns-in-None-clause-told g c =
    told_outside c.print_float.result c.args.wasm.now c.args.at c.place_of.result
    (TellsOfFloat c.args.wasm.now c.args.at c.args.out.now c.print_float.new.out) c.args.out.now
    c.print_float.new.out c.place_of.ensures c.in-None.ensures c.print_float.ensures.told
