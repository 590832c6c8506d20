use Rattle.disk_commands.proofs.on_disk.making.begin_on.Goals as goal

pub returns-in-Some : goal.returns-in-Some
returns-in-Some g c = rw c.in-Some.is c.succeed_on.ensures

pub returns-in-None : goal.returns-in-None
returns-in-None g c = rw c.in-None.is c.create_on.ensures

pub succeed_on-requires : goal.succeed_on-requires
succeed_on-requires g c = rw c.in-Some.is at c.requires
