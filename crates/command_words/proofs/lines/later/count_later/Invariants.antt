use Rattle.std.proofs.Common.{length}
use Rattle.command_words.proofs.LineLemmas.Later.{HasCounted}
use Rattle.command_words.proofs.lines.later.count_later.Given as goal

abbrev pub invariant-loop-rest : goal.invariant-loop-rest
invariant-loop-rest l = HasCounted l.fn.limit l.fn.taken l.fn.text l.count l.rest

abbrev pub decreases-loop-rest : goal.decreases-loop-rest
decreases-loop-rest l = length l.rest
