use Rattle.disk_commands.proofs.UnwrittenLemmas.{unwritten_is_a_failed_write as is_a_failed_write}
use Rattle.disk_commands.proofs.laws.unwritten_is_a_failed_write.Goals as goal

pub returns : goal.returns
returns g = is_a_failed_write
