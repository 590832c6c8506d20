use Rattle.std.proofs.Common.{◌-◌, length, map}
use Rattle.command_words.proofs.WordLemmas.Cuts.{HasPassed}
use Rattle.command_words.proofs.command_line.cut.cut_at_dashes.Given as goal

-- no word so far is `--`
abbrev pub invariant-loop-at : goal.invariant-loop-at
invariant-loop-at g l = HasPassed (map g.S.AsStr.text l.words) l.at

abbrev pub decreases-loop-at : goal.decreases-loop-at
decreases-loop-at g l = length l.words - l.at
