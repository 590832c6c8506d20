use Rattle.command_words.proofs.LimitLemmas.{prints_limit}
use Rattle.command_words.proofs.module_limits.print_limit.Goals as goal

pub returns-clause-told : goal.returns-clause-told
returns-clause-told g c =
    prints_limit c.print_passed.result c.args.out.now c.writeln.new.self c.print_passed.new.out
    c.args.wasm.now c.args.verdict.now c.args.passed c.place_of-place.result c.function_of.result
    c.place_of-place.ensures c.function_of.ensures
    (c.in_ok-writeln.ensures.bytes, c.in_ok-writeln.ensures.steady) c.print_passed.ensures.printed
