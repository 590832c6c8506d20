use Rattle.disk_commands.proofs.on_disk.unsucceeded.report_unleft.Goals as goal

pub returns-in-NotParked : goal.returns-in-NotParked
returns-in-NotParked g c = rw c.in-NotParked.is c.say_restless.ensures

pub returns-in-StepsSpent : goal.returns-in-StepsSpent
returns-in-StepsSpent g c = rw c.in-StepsSpent.is c.say_spent.ensures
