use Rattle.disk_commands.proofs.on_disk.making.make_ordered.Goals as goal

pub returns-in-None : goal.returns-in-None
returns-in-None g c = rw c.in-None.is c.begin_on_disk.ensures

pub returns-in-Some : goal.returns-in-Some
returns-in-Some g c = rw c.in-Some.is c.succeed_disk.ensures
