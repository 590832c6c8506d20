use Rattle.std.proofs.Common.{codes}
use Rattle.std.proofs.lemmas.Result.{on_ok_weaker}
use Rattle.std.specs.Prelude.{Some}
use Rattle.command_words.specs.rules.Texts.{named_number}
use Rattle.command_words.proofs.PrinterLemmas.{prints_six}
use Rattle.disk_commands.specs.rules.Watchings.{state_words}
use Rattle.disk_commands.proofs.on_disk.watching.print_status.Goals as goal

pub returns-clause-printed : goal.returns-clause-printed
returns-clause-printed g c =
    let seen = c.args.seen.now in
    on_ok_weaker c.print_state.result
    (prints_six c.args.out.now c.print_number.new.out c.print_number-2.new.out
    c.print_number-3.new.out c.print_number-4.new.out c.write_all.new.self
    c.print_state.new.out
    (named_number (codes "generation ") seen.position.generation)
    (named_number (codes " steps ") seen.position.steps)
    (named_number (codes " answers ") seen.position.answers)
    (named_number (codes " lines ") seen.position.lines) (codes " ")
    (state_words (Some seen.position.requests) (Some seen.position.journal_left) seen.state)
    c.in_ok-print_number.ensures.printed c.in_ok-print_number-2.ensures.printed
    c.in_ok-print_number-3.ensures.printed c.in_ok-print_number-4.ensures.printed
    (c.in_ok-write_all.ensures.bytes, c.in_ok-write_all.ensures.steady))
    c.print_state.ensures.printed
