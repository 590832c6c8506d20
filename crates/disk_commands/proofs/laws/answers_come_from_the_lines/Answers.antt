use Rattle.disk_commands.proofs.AnsweredLemmas.{answers_are_of_lines}
use Rattle.disk_commands.proofs.RefusalLemmas.{none_is_left}
use Rattle.disk_commands.proofs.laws.answers_come_from_the_lines.Goals as goal

pub returns-clause-answers : goal.returns-clause-answers
returns-clause-answers g = answers_are_of_lines

pub returns-clause-none_left : goal.returns-clause-none_left
returns-clause-none_left g = none_is_left
