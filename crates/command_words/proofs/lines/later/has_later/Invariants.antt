use Rattle.std.proofs.Common.{length}
use Rattle.command_words.proofs.lines.later.has_later.Given as goal

abbrev pub decreases-loop-rest : goal.decreases-loop-rest
decreases-loop-rest l = length l.rest
