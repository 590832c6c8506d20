use Rattle.command_words.specs.rules.Flaws.{excess_words, widening_words}
use Rattle.disk_commands.proofs.LeavingLemmas.{then_printed, words_as}
use Rattle.disk_commands.proofs.on_disk.leaving.print_cut.Goals as goal

pub returns-clause-printed : goal.returns-clause-printed
returns-clause-printed g c =
    let excess = excess_words c.args.version in
    then_printed c.print_widening.result c.args.err.now c.print_words.new.err
    c.print_widening.new.err excess (widening_words c.args.disk.now c.args.version)
    (words_as c.args.err.now c.print_words.new.err c.words_of_cut.result.now excess
    c.words_of_cut.ensures c.in_ok-print_words.ensures.printed)
    c.print_widening.ensures.printed
