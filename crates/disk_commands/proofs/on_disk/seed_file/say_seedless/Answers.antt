use Rattle.disk_commands.proofs.OpeningLemmas.{seedless_said}
use Rattle.disk_commands.proofs.on_disk.seed_file.say_seedless.Goals as goal

pub returns-in-Ok : goal.returns-in-Ok
returns-in-Ok g c =
    seedless_said c.args.path.now c.args.err.now c.writeln.new.self c.in-Ok.ensures.bytes
    c.in-Ok.ensures.steady
