use Rattle.disk_commands.proofs.SeedLemmas.{no_digits}
use Rattle.disk_commands.proofs.on_disk.seed_file.seed_of_text.Goals as goal

pub returns-in-Err-clause-none : goal.returns-in-Err-clause-none
returns-in-Err-clause-none c none = no_digits c.args.text.now c.in-Err.ensures.cases.0
