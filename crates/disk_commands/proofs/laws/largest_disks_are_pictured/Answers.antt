use Rattle.disk_commands.proofs.LargestLemmas.{largest_disks_are_pictured as are_pictured}
use Rattle.disk_commands.proofs.laws.largest_disks_are_pictured.Goals as goal

pub returns : goal.returns
returns g = are_pictured
