use Rattle.command_words.proofs.VerdictLemmas.{pages_told}
use Rattle.command_words.proofs.verdicts.telling.print_link.Goals as goal

pub returns-in-TooManyPages-clause-told : goal.returns-in-TooManyPages-clause-told
returns-in-TooManyPages-clause-told g c =
    pages_told c.print_pages.result c.args.module.now c.args.fault c.args.out.now
    c.print_pages.new.out c.first_pages.result c.in-TooManyPages.is c.first_pages.ensures
    c.print_pages.ensures.printed
