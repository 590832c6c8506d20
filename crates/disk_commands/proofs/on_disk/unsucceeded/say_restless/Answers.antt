use Rattle.disk_commands.proofs.SuccessorLemmas.{restless_said}
use Rattle.disk_commands.proofs.on_disk.unsucceeded.say_restless.Goals as goal

pub returns-in-Ok : goal.returns-in-Ok
returns-in-Ok g c =
    restless_said c.args.path.now c.args.err.now c.writeln.new.self c.in-Ok.ensures.bytes
    c.in-Ok.ensures.steady
