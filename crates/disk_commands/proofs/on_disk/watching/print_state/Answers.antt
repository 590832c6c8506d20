use Rattle.std.proofs.Common.{codes, ◌++◌}
use Rattle.std.proofs.lemmas.Result.{on_ok_weaker}
use Rattle.std.specs.Prelude.{Some}
use Rattle.command_words.specs.rules.Texts.{named_number}
use Rattle.command_words.proofs.LineLemmas.Printed.{prints_both}
use Rattle.disk_commands.specs.rules.Watchings.{left_words}
use Rattle.disk_commands.proofs.on_disk.watching.print_state.Goals as goal

pub returns-clause-printed : goal.returns-clause-printed
returns-clause-printed g c =
    let seen = c.args.seen.now in
    let number = named_number (codes "requests ") seen.position.requests in
    on_ok_weaker c.print_left.result
    (prints_both c.args.out.now c.write_all.new.self c.print_left.new.out
    (number ++ codes " ") (left_words (Some seen.position.journal_left) seen.state)
    (prints_both c.args.out.now c.print_number.new.out c.write_all.new.self number (codes " ")
    c.in_ok-print_number.ensures.printed
    (c.in_ok-write_all.ensures.bytes, c.in_ok-write_all.ensures.steady)))
    c.print_left.ensures.printed
