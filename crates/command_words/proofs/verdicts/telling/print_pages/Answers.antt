use Rattle.command_words.proofs.VerdictLemmas.{few_written, many_written}
use Rattle.command_words.proofs.verdicts.telling.print_pages.Goals as goal

pub returns-then-pages-le-MOST_PAGES-clause-printed :
    goal.returns-then-pages-le-MOST_PAGES-clause-printed
returns-then-pages-le-MOST_PAGES-clause-printed g c =
    few_written c.writeln.result c.args.out.now c.writeln.new.self c.args.pages
    c.if-pages-le-MOST_PAGES.true c.writeln.ensures.bytes c.writeln.ensures.steady

pub returns-else-pages-le-MOST_PAGES-clause-printed :
    goal.returns-else-pages-le-MOST_PAGES-clause-printed
returns-else-pages-le-MOST_PAGES-clause-printed g c =
    many_written c.writeln-else-pages-le-MOST_PAGES.result c.args.out.now
    c.writeln-else-pages-le-MOST_PAGES.new.self c.args.pages c.if-pages-le-MOST_PAGES.false
    c.writeln-else-pages-le-MOST_PAGES.ensures.bytes
    c.writeln-else-pages-le-MOST_PAGES.ensures.steady
