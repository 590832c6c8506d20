use Rattle.disk_commands.proofs.SuccessorLemmas.{spent_said}
use Rattle.disk_commands.proofs.on_disk.unsucceeded.say_spent.Goals as goal

pub returns-in-Ok : goal.returns-in-Ok
returns-in-Ok g c =
    spent_said c.args.path.now c.args.err.now c.writeln.new.self c.in-Ok.ensures.bytes
    c.in-Ok.ensures.steady
