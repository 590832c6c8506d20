use Rattle.std.proofs.Common.{codes}
use Rattle.std.proofs.lemmas.Result.{on_ok_weaker}
use Rattle.command_words.specs.rules.Texts.{named_number}
use Rattle.command_words.proofs.PrinterLemmas.{names_as, prints_four, writes_so}
use Rattle.command_words.specs.FunctionNames.{lent_bytes}
use Rattle.command_words.specs.rules.FunctionNames.{name_words}
use Rattle.disk_commands.proofs.on_disk.trap_frames.print_line.Goals as goal

pub returns-clause-printed : goal.returns-clause-printed
returns-clause-printed g c =
    let frame = c.args.frame in
    on_ok_weaker c.write_all.result
    (prints_four c.args.err.now c.print_number.new.out c.print_name.new.out c.print_number-2.new.out
    c.write_all.new.self (named_number (codes "at function ") frame.function)
    (name_words (lent_bytes c.args.name)) (named_number (codes ", opcode ") frame.position)
    (codes "\n")
    (names_as c.args.err.now c.print_number.new.out (codes "at function ") c.from.result
    frame.function c.from.ensures c.in_ok-print_number.ensures.printed)
    c.in_ok-print_name.ensures.printed c.in_ok-print_number-2.ensures.printed)
    (writes_so c.write_all.result c.print_number-2.new.out c.write_all.new.self (codes "\n")
    c.write_all.ensures.bytes c.write_all.ensures.steady)
