use Rattle.disk_commands.proofs.CountedLemmas.{counts_what_it_takes, heeds_as_it_prints}
use Rattle.disk_commands.proofs.laws.taken_lines_are_counted.Goals as goal

pub returns-clause-counted : goal.returns-clause-counted
returns-clause-counted g = counts_what_it_takes

pub returns-clause-heeds : goal.returns-clause-heeds
returns-clause-heeds g = heeds_as_it_prints
