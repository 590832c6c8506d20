use Rattle.disk_commands.proofs.CauseLemmas.{statuses_have_causes as are_caused}
use Rattle.disk_commands.proofs.laws.statuses_have_causes.Goals as goal

pub returns : goal.returns
returns g c = are_caused g.D.Disk.medium g.O.Outlet.takes
