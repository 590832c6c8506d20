use Rattle.disk_commands.proofs.ToldLineLemmas.{lines_said}
use Rattle.disk_commands.proofs.on_disk.upgrading.say_lines.Goals as goal

pub returns-in-Ok : goal.returns-in-Ok
returns-in-Ok g c =
    lines_said c.args.told c.args.status c.args.err.now c.writeln.new.self c.if-told-eq1.false
    c.in-Ok.ensures.bytes c.in-Ok.ensures.steady
