use Rattle.std.proofs.Common.{codes}
use Rattle.disk_commands.proofs.OpeningLemmas.{busy_said}
use Rattle.disk_commands.proofs.on_disk.opening.say_busy.Goals as goal

pub returns-in-Ok : goal.returns-in-Ok
returns-in-Ok g c =
    busy_said c.args.path.now
    (codes ": another host is using this disk, or it is open twice: end that use") c.args.err.now
    c.writeln.new.self c.in-Ok.ensures.bytes c.in-Ok.ensures.steady
