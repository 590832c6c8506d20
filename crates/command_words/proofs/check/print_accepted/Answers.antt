use Rattle.std.proofs.Common.{◌<◌, ◌≤◌, subst}
use Rattle.command_words.proofs.VerdictLemmas.{few_accepted, many_accepted}
use Rattle.command_words.proofs.check.print_accepted.Goals as goal

pub returns-then-from-le-PAGES-clause-printed : goal.returns-then-from-le-PAGES-clause-printed
returns-then-from-le-PAGES-clause-printed g c =
    few_accepted c.writeln.result c.args.out.now c.writeln.new.self c.args.pages
    (subst (λ n. n ≤ 16) c.from.ensures c.if-from-le-PAGES.true) c.writeln.ensures.bytes

pub returns-else-from-le-PAGES-clause-printed : goal.returns-else-from-le-PAGES-clause-printed
returns-else-from-le-PAGES-clause-printed g c =
    many_accepted c.writeln-else-from-le-PAGES.result c.args.out.now
    c.writeln-else-from-le-PAGES.new.self c.args.pages
    (subst (λ n. 16 < n) c.from.ensures c.if-from-le-PAGES.false)
    c.writeln-else-from-le-PAGES.ensures.bytes
