use Rattle.std.proofs.lemmas.Result.{on_ok_weaker}
use Rattle.command_words.specs.FunctionNames.{lent_bytes}
use Rattle.disk_commands.specs.rules.LastWords.{ended_by}
use Rattle.disk_commands.proofs.TrapFrameLemmas.{prints_over}
use Rattle.disk_commands.proofs.on_disk.ending.print_over.Goals as goal

pub returns-clause-printed : goal.returns-clause-printed
returns-clause-printed g c =
    on_ok_weaker c.print_next.result
    (prints_over (lent_bytes c.args.module) c.args.is_heard (ended_by c.args.now)
    c.args.taken c.args.err.now c.print_last_words.new.err c.print_trap.new.err c.print_next.new.err
    c.in_ok-print_last_words.ensures.printed c.in_ok-print_trap.ensures.printed)
    c.print_next.ensures.printed
