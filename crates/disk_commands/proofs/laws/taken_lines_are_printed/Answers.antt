use Rattle.command_words.proofs.LineLemmas.Printed.{taken_are_printed}
use Rattle.disk_commands.proofs.ReleasedLemmas.{released_are_printed}
use Rattle.disk_commands.proofs.laws.taken_lines_are_printed.Goals as goal

pub returns-clause-taken : goal.returns-clause-taken
returns-clause-taken g = taken_are_printed

pub returns-clause-released : goal.returns-clause-released
returns-clause-released g = released_are_printed
