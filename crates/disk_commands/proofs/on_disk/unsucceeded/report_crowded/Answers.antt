use Rattle.disk_commands.proofs.SuccessorLemmas.{crowded_said}
use Rattle.disk_commands.proofs.on_disk.unsucceeded.report_crowded.Goals as goal

pub returns-in-Ok : goal.returns-in-Ok
returns-in-Ok g c =
    crowded_said c.units_for-units.result c.args.bytes c.args.err.now c.writeln.new.self
    c.units_for-units.ensures c.in-Ok.ensures.bytes c.in-Ok.ensures.steady
