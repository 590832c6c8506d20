use Rattle.std.proofs.Common.{Some, None}
use Rattle.command_words.proofs.LimitLemmas.{prints_passed}
use Rattle.command_words.proofs.module_limits.print_passed.Goals as goal

pub returns-in-Some-clause-printed : goal.returns-in-Some-clause-printed
returns-in-Some-clause-printed g c =
    rw c.in-Some.is (prints_passed c.writeln.result c.args.out.now c.writeln.new.self
    c.args.passed (Some c.in-Some.number) c.most_of-most.result c.words_of_limit-what.result.now
    c.most_of-most.ensures c.words_of_limit-what.ensures c.writeln.ensures.bytes
    c.writeln.ensures.steady)

pub returns-in-None-clause-printed : goal.returns-in-None-clause-printed
returns-in-None-clause-printed g c =
    rw c.in-None.is (prints_passed c.writeln-in-None.result c.args.out.now
    c.writeln-in-None.new.self c.args.passed None c.most_of-most.result
    c.words_of_limit-what.result.now c.most_of-most.ensures c.words_of_limit-what.ensures
    c.writeln-in-None.ensures.bytes c.writeln-in-None.ensures.steady)
