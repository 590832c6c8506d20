use Rattle.std.proofs.Common.{None}
use Rattle.command_words.specs.rules.ModuleLimits.{passed_text}
use Rattle.command_words.specs.rules.Printers.{IsPrinted}
use Rattle.command_words.proofs.ListingLemmas.{told_outside, untold_inside}
use Rattle.command_words.proofs.verdicts.telling.print_limit_outside.Goals as goal

pub returns-in-Some-clause-told : goal.returns-in-Some-clause-told
returns-in-Some-clause-told g c =
    untold_inside c.args.wasm.now c.args.passed.at c.in-Some.field-0 c.place_of.result
    (IsPrinted c.args.out.now c.args.out.now (passed_text c.args.passed None)) c.args.out.now
    c.place_of.ensures c.in-Some.ensures

pub returns-in-None-clause-told : goal.returns-in-None-clause-told
returns-in-None-clause-told g c =
    told_outside c.print_passed.result c.args.wasm.now c.args.passed.at c.place_of.result
    (IsPrinted c.args.out.now c.print_passed.new.out (passed_text c.args.passed None))
    c.args.out.now c.print_passed.new.out c.place_of.ensures c.in-None.ensures
    c.print_passed.ensures.printed
