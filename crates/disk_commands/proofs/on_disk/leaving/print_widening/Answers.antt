use Rattle.disk_commands.proofs.LeavingLemmas.{widening_said}
use Rattle.disk_commands.proofs.on_disk.leaving.print_widening.Goals as goal

pub returns-in-One-clause-printed : goal.returns-in-One-clause-printed
returns-in-One-clause-printed g c =
    widening_said c.write.result c.args.disk.now c.args.version c.args.err.now c.write.new.self
    c.in-One.is c.write.ensures.bytes c.write.ensures.steady
