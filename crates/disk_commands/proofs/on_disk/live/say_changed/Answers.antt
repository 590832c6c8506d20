use Rattle.std.proofs.Common.{codes}
use Rattle.disk_commands.proofs.OpeningLemmas.{busy_said}
use Rattle.disk_commands.proofs.on_disk.live.say_changed.Goals as goal

pub returns-in-Ok : goal.returns-in-Ok
returns-in-Ok g c =
    busy_said c.args.path.now (codes ": its worker has just saved itself, look again")
    c.args.err.now c.writeln.new.self c.in-Ok.ensures.bytes c.in-Ok.ensures.steady
