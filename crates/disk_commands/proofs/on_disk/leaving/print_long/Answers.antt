use Rattle.std.proofs.Common.{codes, ◌++◌}
use Rattle.std.specs.Fmt.{decimal}
use Rattle.command_words.specs.rules.Flaws.{text_limit_words, widening_words}
use Rattle.command_words.proofs.LineLemmas.Printed.{prints_both}
use Rattle.disk_commands.proofs.LeavingLemmas.{then_printed, words_as}
use Rattle.disk_commands.proofs.on_disk.leaving.print_long.Goals as goal

pub returns-clause-printed : goal.returns-clause-printed
returns-clause-printed g c =
    let limit = text_limit_words c.args.version in
    then_printed c.print_widening.result c.args.err.now c.print_words.new.err
    c.print_widening.new.err (decimal c.args.bytes ++ codes " bytes, and " ++ limit)
    (widening_words c.args.disk.now c.args.version)
    (prints_both c.args.err.now c.write.new.self c.print_words.new.err
    (decimal c.args.bytes ++ codes " bytes, and ") limit
    (c.in_ok-write.ensures.bytes, c.in_ok-write.ensures.steady)
    (words_as c.write.new.self c.print_words.new.err c.words_of_limit.result.now limit
    c.words_of_limit.ensures c.in_ok-print_words.ensures.printed))
    c.print_widening.ensures.printed
