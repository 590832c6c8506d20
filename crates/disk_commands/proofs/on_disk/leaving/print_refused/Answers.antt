use Rattle.command_words.specs.rules.Flaws.{flaw_line}
use Rattle.disk_commands.specs.rules.Leavings.{place_line}
use Rattle.disk_commands.proofs.LeavingLemmas.{then_printed}
use Rattle.disk_commands.proofs.on_disk.leaving.print_refused.Goals as goal

pub returns-clause-printed : goal.returns-clause-printed
returns-clause-printed g c =
    then_printed c.print_flaw_line.result c.args.err.now c.print_place.new.err
    c.print_flaw_line.new.err (place_line c.args.number)
    (flaw_line c.args.disk.now c.args.version c.args.flaw)
    c.in_ok-print_place.ensures.printed c.print_flaw_line.ensures.printed
