use Rattle.disk_commands.proofs.TrapFrameLemmas.{read_module_on}
use Rattle.disk_commands.proofs.on_disk.trap_frames.module_on.Goals as goal

pub returns-in-Ok-clause-shown : goal.returns-in-Ok-clause-shown
returns-in-Ok-clause-shown g c =
    read_module_on (g.D.Disk.medium c.args.disk.now) (g.D.Disk.medium c.read_contents.new.disk)
    c.in-Ok.contents c.in-Ok.ensures.gives
